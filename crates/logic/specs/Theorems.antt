-- What is proved of the meaning, over every scale with the laws. Assumes nothing.
use Rattle.std.specs.Prelude.{◌≡◌, ℕ, ◌+◌, ◌<◌, ◌≤◌, List, ◌++◌, length, slice_index}
use Rattle.std.specs.List.{AllByRecursion}
use Rattle.scale.specs.Laws.{Ops, Below}
use Rattle.scale.specs.Limits.{largest_code}
use Rattle.sample.specs.declared.row.SampleRow.{SampleRow}
use Rattle.logic.specs.Formula.{Formula, wait, reach}
use Rattle.logic.specs.Meaning.{plain, ends}
use Rattle.logic.specs.Trace.{trace, newest, Rising}

-- σ and then more is a lawful continuation of σ: stamps rise all along
abbrev pub Continues : List SampleRow → List SampleRow → Type 0
Continues σ more = Rising (trace (σ ++ more))

-- the newest stamp is at least the wait beyond position j
abbrev pub Waited : Formula → List SampleRow → ℕ → Type 0
Waited A σ j = (trace σ).stamp j + wait A ≤ newest (trace σ)

module _ {V : Type 0} (O : Ops V) where
  -- once the wait is over, both ends are the plain value
  abbrev pub Settles : Type 0
  Settles =
      (read : ℕ → ℕ → V) (A : Formula) (σ : List SampleRow) (j : ℕ) →
      Rising (trace σ) →
      j < length σ →
      Waited A σ j →
      ((ends O read (trace σ) A j).low ≡ plain O read (trace σ) A j) × ((ends O read (trace σ) A j).high ≡ plain O read (trace σ) A j)

  -- more samples never move the low end down or the high end up
  abbrev pub Narrows : Type 0
  Narrows =
      (read : ℕ → ℕ → V) (A : Formula) (σ more : List SampleRow) (j : ℕ) →
      Continues σ more →
      j < length σ →
      Below O (ends O read (trace σ) A j).low (ends O read (trace (σ ++ more)) A j).low
      × Below O (ends O read (trace (σ ++ more)) A j).high (ends O read (trace σ) A j).high

  -- the ends enclose the true value: the plain value in every lawful continuation that runs the wait beyond ..
  abbrev pub Encloses : Type 0
  Encloses =
      (read : ℕ → ℕ → V) (A : Formula) (σ more : List SampleRow) (j : ℕ) →
      Continues σ more →
      j < length σ →
      Waited A (σ ++ more) j →
      Below O (ends O read (trace σ) A j).low (plain O read (trace (σ ++ more)) A j)
      × Below O (plain O read (trace (σ ++ more)) A j) (ends O read (trace σ) A j).high

  -- the low end is at most the high end
  abbrev pub Ordered : Type 0
  Ordered =
      (read : ℕ → ℕ → V) (A : Formula) (σ : List SampleRow) (j : ℕ) → Below O (ends O read (trace σ) A j).low (ends O read (trace σ) A j).high

  -- the ends of a settled position never change again
  abbrev pub StaysSettled : Type 0
  StaysSettled =
      (read : ℕ → ℕ → V) (A : Formula) (σ more : List SampleRow) (j : ℕ) →
      Continues σ more →
      j < length σ →
      (ends O read (trace σ) A j).low ≡ (ends O read (trace σ) A j).high →
      ends O read (trace (σ ++ more)) A j ≡ ends O read (trace σ) A j

  -- samples that are more than the reach older than a position do not matter to its ends: dropped, they leave them equal
  abbrev pub Forgets : Type 0
  Forgets =
      (read : ℕ → ℕ → V) (A : Formula) (old kept : List SampleRow) (j : ℕ) →
      Continues old kept →
      j < length kept →
      ((q : ℕ) → q < length old → (trace (old ++ kept)).stamp q + reach A < (trace kept).stamp j) →
      ends O read (trace (old ++ kept)) A (length old + j) ≡ ends O read (trace kept) A j

-- four codes, none above the largest
pub record Coded (row : SampleRow) : Type 0 where
  pub four : length row.codes ≡ 4
  pub within : (channel : ℕ) → slice_index row.codes channel ≤ largest_code

-- .. of which there always is one, of rows that have codes as samples do
abbrev pub CanContinue : Type 0
CanContinue =
    (A : Formula) (σ : List SampleRow) (j : ℕ) →
    Rising (trace σ) →
    j < length σ →
    (more : List SampleRow) × AllByRecursion Coded more × Continues σ more × Waited A (σ ++ more) j
