-- The samples of a record as they are read, place after place. Assumes nothing.
use Rattle.std.specs.Prelude.{◌≡◌, ℕ, zero, suc, ◌+◌, ◌-◌, ◌*◌, ◌/◌, ◌≤◌, Bool, true, cond, ◌&&◌, List, [], ◌∷◌, length, take, drop, Ok, Err, Result, nat_le, nat_lt}
use Rattle.refusal.specs.Table.{number_of}
use Rattle.refusal.specs.declared.Refusal.{Refusal}
use Rattle.refusal.specs.declared.Refusal.TheVariants.{Cut, Range}
use Rattle.scale.specs.Limits.{largest_code}
use Rattle.sample.specs.Coming.{Coming, first, rest}
use Rattle.sample.specs.Limits.{stamp_limit}
use Rattle.sample.specs.declared.ending.Ending.{Ending}
use Rattle.sample.specs.declared.ending.Ending.TheVariants.{Dry, Fault}
use Rattle.sample.specs.declared.row.SampleRow.{SampleRow}
use Rattle.sample.specs.declared.sample.Sample.{Sample}
use Rattle.record.specs.declared.source.RecordSource.{RecordSource}

-- the number that bytes spell, the low byte first
abbrev pub number : List ℕ → ℕ
number [] = 0
number (b ∷ bs) = b + 256 * number bs

abbrev two_at : List ℕ → ℕ → ℕ
two_at bytes at = number (take 2 (drop at bytes))

-- the row that sixteen bytes spell
abbrev pub row_of : List ℕ → SampleRow
row_of bytes = record { stamp = number (take 8 bytes); codes = two_at bytes 8 ∷ two_at bytes 10 ∷ two_at bytes 12 ∷ two_at bytes 14 ∷ [] }

abbrev pub codes_fit : List ℕ → Bool
codes_fit [] = true
codes_fit (c ∷ cs) = nat_le c largest_code && codes_fit cs

abbrev pub row_fits : SampleRow → Bool
row_fits row = nat_lt row.stamp stamp_limit && codes_fit row.codes

abbrev pub fault : Refusal → ℕ → Ending
fault why place = Fault (record { number = number_of why; place = place })

module _ (bytes : List ℕ) where
  -- with so many times sixteen bytes left
  abbrev pub coming_counted : ℕ → ℕ → Coming
  coming_counted zero at = record { samples = []; ending = cond (nat_lt at (length bytes)) (fault Cut at) Dry }
  coming_counted (suc n) at =
      cond (row_fits (row_of (take 16 (drop at bytes))))
      (record { samples = row_of (take 16 (drop at bytes)) ∷ (coming_counted n (at + 16)).samples; ending = (coming_counted n (at + 16)).ending })
      (record { samples = []; ending = fault Range at })

  abbrev pub coming_from : ℕ → Coming
  coming_from at = coming_counted ((length bytes - at) / 16) at

abbrev pub coming_of : RecordSource → Coming
coming_of source = coming_from source.bytes.now source.at

-- the answer at a place: the first of what comes from there, and what comes after it
abbrev pub Seen : List ℕ → ℕ → Result Sample Ending → Type 0
Seen bytes at (Ok sample) =
    (first (coming_from bytes at) ≡ Ok sample.row) × (rest (coming_from bytes at) ≡ coming_from bytes (at + 16)) × (at + 16 ≤ length bytes)
Seen bytes at (Err ending) = (first (coming_from bytes at) ≡ Err ending) × (rest (coming_from bytes at) ≡ coming_from bytes at)
