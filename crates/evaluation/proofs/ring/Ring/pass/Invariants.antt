use Rattle.std.proofs.Common.{length}
use Rattle.evaluation.specs.Passes.{Through}
use Rattle.evaluation.proofs.ring.Ring.pass.Given as goal

abbrev pub invariant-loop-k : goal.invariant-loop-k
invariant-loop-k g l = Through g.S.Scale.ops l.self l.right l.bounds.low l.bounds.high l.j g.ks l.found l.so_far (length l.yielded)
