-- Searches over positions in rings of lent memory. Assumes nothing.
use Rattle.std.specs.Prelude.{ℕ, ◌+◌, ◌%◌, ◌<◌, ◌≤◌, Bool, not, List, length, Option, slice_index_or}
use Rattle.std.specs.List.{find, range_with_len}
use Rattle.scale.specs.Laws.{Ops}
use Rattle.sample.specs.declared.row.SampleRow.{SampleRow}
use Rattle.evaluation.specs.Memory.{no_cell, row_at}
use Rattle.evaluation.specs.declared.memory.Cell.{Cell}
use Rattle.world.specs.declared.answer.Shown.{Shown}

-- r is the first position from low on, and below high, whose stamp and by more is after the stamp `moment`; high if there is none
pub record FirstLater (rows : List SampleRow) (low high moment by r : ℕ) : Type 0 where
  pub from : low ≤ r
  pub to : r ≤ high
  pub past : (p : ℕ) → low ≤ p → p < r → (row_at rows p).stamp + by ≤ moment
  pub next : r < high → moment < (row_at rows r).stamp + by

-- the lowest of c numbers from j on that passes a test
abbrev pub lowest : (ℕ → Bool) → ℕ → ℕ → Option ℕ
lowest test j c = find test (range_with_len j c)

-- the cell of a position in one node's ring of cells
abbrev pub cell_in : List Cell → ℕ → Cell
cell_in ring p = slice_index_or ring (p % length ring) no_cell

module _ {V : Type 0} (ops : Ops V) where
  -- the two ends that a cell keeps
  abbrev pub ends_of : Cell → Shown V
  ends_of c = record { low = ops.restored c.low; high = ops.restored c.high }

  -- the two ends in a cell are the same
  abbrev pub same_ends : Cell → Bool
  same_ends c = ops.same (ends_of c).low (ends_of c).high

  -- the high end in a cell does not pass
  abbrev pub fails : Cell → Bool
  fails c = not (ops.passes (ends_of c).high)
