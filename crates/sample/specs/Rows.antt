-- Rows that a sample can hold, and the row nearest to any other. Assumes nothing.
use Rattle.std.specs.Prelude.{ℕ, ◌-◌, ◌<◌, ◌≤◌, min, map, slice_index}
use Rattle.scale.specs.Limits.{largest_code}
use Rattle.sample.specs.Limits.{stamp_limit}
use Rattle.sample.specs.declared.row.SampleRow.{SampleRow}

-- the stamp is below its limit, and no code is above the largest
pub record Fits (row : SampleRow) : Type 0 where
  pub early : row.stamp < stamp_limit
  pub within : (k : ℕ) → slice_index row.codes k ≤ largest_code

-- a code above the largest counts as the largest
abbrev pub nearest : ℕ → ℕ
nearest code = min code largest_code

-- the row with each figure above its limit put at the limit
abbrev pub clamped : SampleRow → SampleRow
clamped row = record { stamp = min row.stamp (stamp_limit - 1); codes = map nearest row.codes }
