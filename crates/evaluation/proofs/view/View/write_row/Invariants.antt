use Rattle.std.proofs.Common.{◌++◌, length}
use Rattle.evaluation.specs.Memory.{Climbs}
use Rattle.evaluation.specs.Nodes.{node_cell, Written}
use Rattle.evaluation.specs.Views.{trace_in}
use Rattle.evaluation.proofs.view.View.write_row.Given as goal

abbrev pub invariant-loop-j : goal.invariant-loop-j
invariant-loop-j g l =
    Written (Climbs (trace_in l.self)) (length l.self.rows.now) l.m l.self.start l.from
    (node_cell g.S.Scale.ops g.S.TestScale.reading l.self.rows.now l.self.start l.self.count l.fn.cells l.node) l.fn.cells (l.earlier ++ l.own) l.j
