-- Traces: samples with a stamp and codes at each position, in the order of time. Assumes nothing.
use Rattle.std.specs.Prelude.{ℕ, ◌+◌, ◌-◌, ◌<◌, Bool, ◌&&◌, List, [], length, nat_le, slice_index, slice_index_or}
use Rattle.sample.specs.declared.row.SampleRow.{SampleRow}

-- a trace by its size, the stamp of each position, and the code of each channel there; stamps have no limit here
pub record Trace : Type 0 where
  pub size : ℕ
  pub stamp : ℕ → ℕ
  pub code : ℕ → ℕ → ℕ

abbrev pub blank : SampleRow
blank = record { stamp = 0; codes = [] }

-- the trace of a capture
abbrev pub trace : List SampleRow → Trace
trace σ = record { size = length σ; stamp = λ j. (slice_index_or σ j blank).stamp; code = λ j channel. slice_index (slice_index_or σ j blank).codes channel }

-- the stamp of the newest position
abbrev pub newest : Trace → ℕ
newest σ = σ.stamp (σ.size - 1)

-- stamps strictly rise
abbrev pub Rising : Trace → Type 0
Rising σ = (a b : ℕ) → a < b → b < σ.size → σ.stamp a < σ.stamp b

-- whether k lies within the bounds after j: t(j) + low ≤ t(k) ≤ t(j) + high
unfoldable pub within : (ℕ → ℕ) → ℕ → ℕ → ℕ → ℕ → Bool
within t low high j k = nat_le (t j + low) (t k) && nat_le (t k) (t j + high)
