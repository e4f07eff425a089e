-- How many untaken positions a sample settles. Assumes nothing.
use Rattle.std.proofs.Common.{◌≡◌, ℕ, zero, suc, ◌+◌, ◌-◌, ◌<◌, ◌≤◌, max, Bool, true, false, not, ◌&&◌, ltb, leb, ◌⊎◌, List, [], ◌∷◌, ◌++◌, length, sym, refl, ap, ◌∙◌, ap₂, add-one, arith, length-append}
use Rattle.std.proofs.lemmas.Bool.Decides.{nat_tests}
use Rattle.scale.specs.Laws.{Ops, Laws}
use Rattle.logic.specs.Meaning.{Ends}
use Rattle.rule.specs.declared.rule.Rule.{Rule}
use Rattle.sample.specs.declared.row.SampleRow.{SampleRow}
use Rattle.evaluation.specs.Memory.{cell_at, kept_ends}
use Rattle.evaluation.specs.declared.memory.Cell.{Cell}
use Rattle.world.specs.Steps.{many, settled}
use Rattle.world.specs.Tests.{rule_formula}
use Rattle.world.proofs.Enough.{rising_first}
use Rattle.world.proofs.Settling.{over, still}
use Rattle.world.proofs.Tallies.{many_same, many_split, many_below}
use Rattle.watch.specs.Cells.{same_ends}
use Rattle.watch.specs.Memory.{last_node}
use Rattle.watch.specs.Refreshed.{Refreshed, settled_among}
use Rattle.watch.proofs.Counting.{many_more, many_most}
use Rattle.watch.proofs.Fresh.{Put, as_long, fresh, waited}

-- a count from f on, by numbers or by how far they are from f
pub many_shift : (p : ℕ → Bool) (f n : ℕ) → many (λ j. leb f j && p j) n ≡ many (λ k. p (f + k)) (n - f)
unfolding many
many_shift p f zero = let e : zero - f ≡ 0 = omega arith in rw e refl
many_shift p f (suc n) = grind (arith, nat_tests, many_shift p f n, many_more p f n)

-- a position is settled now: it was before, or it is counted as new
each : (was is : Bool) (j n taken from : ℕ) → from ≤ n → j < suc n → (taken ≤ j → j < from → was ≡ true) → (j < n → was ≡ true → is ≡ true) →
    (((leb (max from taken) j && (ltb j n && was)) ≡ true) × ((leb taken j && (is && not (ltb j n && was))) ≡ false) × ((leb (max from taken) j && is) ≡ true))
    ⊎ (((leb (max from taken) j && (ltb j n && was)) ≡ false) × ((leb taken j && (is && not (ltb j n && was))) ≡ (leb (max from taken) j && is)))
each was is j n taken from to l done kept = grind (arith, nat_tests)

-- a cell of two ends says whether they are the same
pub settled_cell : {V : Type 0} {ops : Ops V} → Laws ops → (c : Cell) (e : Ends V) → c ≡ kept_ends ops e → same_ends ops c ≡ ops.same e.low e.high
settled_cell {ops = ops} laws c e is = ap (same_ends ops) is ∙ ap₂ ops.same (laws.restores e.low) (laws.restores e.high)

-- whatever lies in memory, no more positions are counted than are untaken
pub few_settled : {V : Type 0} (ops : Ops V) (read : ℕ → ℕ → V) {rule : Rule} {rows : List SampleRow} {oldest accepted taken newest count : ℕ} {cells cells' : List Cell} → Refreshed ops read rule rows oldest accepted taken newest cells cells' count → count ≤ accepted + 1 - taken
few_settled ops read {rule} {rows} {accepted = accepted} {taken = taken} {cells' = cells'} R =
    let m = many_most (λ k. same_ends ops (cell_at cells' (length rows) (last_node rule) (max R.from taken + k))) (accepted + 1 - max R.from taken) in
    let c = R.count_is in
    omega arith

module _ {V : Type 0} {ops : Ops V} (laws : Laws ops) (read : ℕ → ℕ → V) {rule : Rule} {σ : List SampleRow} {s : SampleRow} {rows rows' : List SampleRow} {cells : List Cell} {low last : ℕ} (P : Put ops read rule σ s rows rows' cells low last) {taken count : ℕ} {cells' : List Cell} (R : Refreshed ops read rule rows' low (length σ) taken last cells cells' count) (untaken : low ≤ taken) (few : taken ≤ length σ) where
  abbrev was : ℕ → Bool
  was j = settled ops read (rule_formula rule) σ j

  abbrev is : ℕ → Bool
  is j = settled ops read (rule_formula rule) (σ ++ s ∷ []) j

  abbrev f : ℕ
  f = max R.from taken

  abbrev anew : ℕ → Bool
  anew j = leb taken j && (is j && not (ltb j (length σ) && was j))

  size : length (σ ++ s ∷ []) ≡ length σ + 1
  size = length-append σ (s ∷ [])

  over_before : (j : ℕ) → taken ≤ j → j < R.from → was j ≡ true
  over_before j a b =
      let n = size in
      let to = R.waiting.to in
      over laws read (rule_formula rule) σ j (rising_first σ (s ∷ []) P.up) (omega arith) (waited P laws R j (omega arith) b)

  total : many (λ j. leb (max R.from taken) j && is j) (suc (length σ)) ≡ many (λ j. leb (max R.from taken) j && was j) (length σ) + many anew (suc (length σ))
  total =
      many_split (λ j. leb (max R.from taken) j && is j) (λ j. leb (max R.from taken) j && (ltb j (length σ) && was j)) anew (suc (length σ)) (λ j l. each (was j) (is j) j (length σ) taken R.from R.waiting.to l (over_before j) (λ a b. still laws read (rule_formula rule) σ (s ∷ []) j P.up a b))
      ∙ ap (λ k. k + many anew (suc (length σ)))
      (many_same (λ j. leb (max R.from taken) j && (ltb j (length σ) && was j)) (λ j. ltb j (length σ) && (leb (max R.from taken) j && was j)) (suc (length σ)) (λ j l. grind arith)
      ∙ many_below (λ j. leb (max R.from taken) j && was j) (length σ))

  settled_after : settled_among ops rule (length rows') cells' (max R.from taken) (length σ + 1 - max R.from taken) ≡ many (λ j. leb (max R.from taken) j && is j) (suc (length σ))
  settled_after =
      let n = size in
      let w₁ = R.window.from in
      let w₂ = R.waiting.from in
      many_same (λ k. same_ends ops (cell_at cells' (length rows') (last_node rule) (max R.from taken + k))) (λ k. is (max R.from taken + k)) (length σ + 1 - max R.from taken) (λ k l.
      ap (λ c. same_ends ops (cell_at cells' c (last_node rule) (max R.from taken + k))) (as_long P)
      ∙ settled_cell laws _ _ (fresh P laws R (max R.from taken + k) (omega arith) (omega arith)))
      ∙ ap (λ m. many (λ k. is (max R.from taken + k)) (m - max R.from taken)) (add-one (length σ))
      ∙ sym (many_shift is (max R.from taken) (suc (length σ)))

  settled_before : settled_among ops rule (length rows') cells (max R.from taken) (length σ - max R.from taken) ≡ many (λ j. leb (max R.from taken) j && was j) (length σ)
  settled_before =
      let w₁ = R.window.from in
      let w₂ = R.waiting.from in
      many_same (λ k. same_ends ops (cell_at cells (length rows') (last_node rule) (max R.from taken + k))) (λ k. was (max R.from taken + k)) (length σ - max R.from taken) (λ k l.
      ap (λ c. same_ends ops (cell_at cells c (last_node rule) (max R.from taken + k))) (as_long P)
      ∙ settled_cell laws _ _ (P.showed (max R.from taken + k) (omega arith) (omega arith)))
      ∙ sym (many_shift was (max R.from taken) (length σ))

  pub counted_newly : count ≡ many (λ j. leb taken j && (settled ops read (rule_formula rule) (σ ++ s ∷ []) j && not (ltb j (length σ) && settled ops read (rule_formula rule) σ j))) (suc (length σ))
  counted_newly =
      let t = total in
      let a = settled_after in
      let b = settled_before in
      let c = R.count_is in
      omega arith
