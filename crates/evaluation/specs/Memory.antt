-- How lent memory is read: rows of samples and cells of two ends, both in rings. Assumes nothing.
use Rattle.std.specs.Prelude.{ℕ, ◌+◌, ◌*◌, ◌%◌, ◌<◌, ◌≤◌, List, length, pos, slice_index, slice_index_or}
use Rattle.scale.specs.Laws.{Ops}
use Rattle.sample.specs.Rows.{clamped}
use Rattle.sample.specs.declared.row.SampleRow.{SampleRow}
use Rattle.logic.specs.Meaning.{Ends}
use Rattle.logic.specs.Trace.{Trace, blank}
use Rattle.evaluation.specs.declared.memory.Cell.{Cell}

abbrev pub no_cell : Cell
no_cell = record { low = pos 0; high = pos 0 }

-- the place of node m's cell at position p, with C places for each node
abbrev pub place : ℕ → ℕ → ℕ → ℕ
place C m p = m * C + p % C

abbrev pub cell_at : List Cell → ℕ → ℕ → ℕ → Cell
cell_at cells C m p = slice_index_or cells (place C m p) no_cell

-- the sample in a place, with each figure that is too large cut down to its limit
abbrev pub row_in : List SampleRow → ℕ → SampleRow
row_in rows i = clamped (slice_index_or rows i blank)

abbrev pub row_at : List SampleRow → ℕ → SampleRow
row_at rows p = row_in rows (p % length rows)

-- the samples of count positions from first on
abbrev pub window : List SampleRow → ℕ → ℕ → Trace
window rows first count = record {
  size = count;
  stamp = λ k. (row_at rows (first + k)).stamp;
  code = λ k channel. slice_index (row_at rows (first + k)).codes channel;
}

-- the stamps do not fall
abbrev pub Climbs : Trace → Type 0
Climbs σ = (a b : ℕ) → a ≤ b → b < σ.size → σ.stamp a ≤ σ.stamp b

module _ {V : Type 0} (o : Ops V) where
  -- the ends in memory of node m at the k-th position of the window
  abbrev pub ends_in : List Cell → ℕ → ℕ → ℕ → ℕ → Ends V
  ends_in cells C first m k = record { low = o.restored (cell_at cells C m (first + k)).low; high = o.restored (cell_at cells C m (first + k)).high }

  abbrev pub kept_ends : Ends V → Cell
  kept_ends e = record { low = o.kept e.low; high = o.kept e.high }
