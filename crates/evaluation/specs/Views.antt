-- What a view shows, the samples of a window, and what a node's ring of cells shows over it. Assumes nothing.
use Rattle.std.specs.Prelude.{ℕ, ◌+◌, ◌%◌, length, slice_index_or}
use Rattle.std.specs.Int.{abs_diff}
use Rattle.scale.specs.Laws.{Ops}
use Rattle.logic.specs.Meaning.{Ends}
use Rattle.logic.specs.Trace.{Trace}
use Rattle.evaluation.specs.Memory.{no_cell, window}
use Rattle.evaluation.specs.declared.memory.Cell.{Cell}
use Rattle.evaluation.specs.declared.ring.Ring.{Ring}
use Rattle.evaluation.specs.declared.view.View.{View}

abbrev pub trace_in : View → Trace
trace_in v = window v.rows.now v.start v.count

-- how far apart in time two positions are
abbrev pub gap_in : View → ℕ → ℕ → ℕ
gap_in v j k = abs_diff ((trace_in v).stamp j) ((trace_in v).stamp k)

abbrev pub cell_in : Ring → ℕ → Cell
cell_in r k = slice_index_or r.cells.now ((r.view.start + k) % length r.view.rows.now) no_cell

-- a node's ends at the k-th position
abbrev pub ends_at : {V : Type 0} → Ops V → Ring → ℕ → Ends V
ends_at o r k = record { low = o.restored (cell_in r k).low; high = o.restored (cell_in r k).high }
