-- What a record source gives: the samples that stand in the bytes from a place on, up to the first broken one. Assumes nothing.
use Rattle.std.specs.Prelude.{◌≡◌, ℕ, ◌+◌, ◌<◌, ◌⊎◌, List, [], ◌++◌, length, drop}
use Rattle.std.specs.List.{AllByRecursion}
use Rattle.refusal.specs.Table.{number_of}
use Rattle.refusal.specs.declared.Refusal.TheVariants.{Cut, Range}
use Rattle.sample.specs.Coming.{Coming}
use Rattle.sample.specs.Rows.{Fits}
use Rattle.sample.specs.declared.ending.Ending.{Ending}
use Rattle.sample.specs.declared.ending.Ending.TheVariants.{Dry, Fault}
use Rattle.sample.specs.declared.row.SampleRow.{SampleRow}
use Rattle.record.specs.Format.{each, sample_bytes}

-- the row of a sample
pub record Whole (row : SampleRow) : Type 0 where
  pub four : length row.codes ≡ 4
  pub fits : Fits row

-- the bytes begin with sixteen that are no sample
pub record BrokenFirst (bytes : List ℕ) : Type 0 where
  pub row : SampleRow
  pub more : List ℕ
  pub bytes_are : bytes ≡ sample_bytes row ++ more
  pub four : length row.codes ≡ 4
  pub unfit : Fits row → ⊥

-- how a source ends that has these bytes left, in a record of so many bytes
abbrev pub Ends : ℕ → List ℕ → Ending → Type 0
Ends size left Dry = left ≡ []
Ends size left (Fault fault) =
    (fault.place + length left ≡ size)
    × (((fault.number ≡ number_of Cut) × (0 < length left) × (length left < 16)) ⊎ ((fault.number ≡ number_of Range) × BrokenFirst left))

pub record Comes (bytes : List ℕ) (start : ℕ) (coming : Coming) : Type 0 where
  pub left : List ℕ
  pub bytes_are : drop start bytes ≡ each sample_bytes coming.samples ++ left
  pub whole : AllByRecursion Whole coming.samples
  pub ends : Ends (length bytes) left coming.ending
