use Rattle.evaluation.specs.Nodes.{Held}
use Rattle.evaluation.proofs.view.View.evaluate.Given as goal

abbrev pub invariant-loop-m : goal.invariant-loop-m
invariant-loop-m g l = Held g.S.Scale.ops g.S.TestScale.reading l.self.rows.now l.self.start l.self.count l.nodes l.fn.cells l.cells l.m
