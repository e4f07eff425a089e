use Rattle.std.proofs.Common.{◌∙◌}
use Rattle.evaluation.proofs.Connect.{next_there}
use Rattle.evaluation.proofs.ring.Ring.next.Goals as goal

pub returns-then-j-self : goal.returns-then-j-self
returns-then-j-self g c = λ up. c.ends_near.ensures ∙ next_there g.S.Scale.ops c.args.self.now c.args.bounds.low c.args.bounds.high c.args.j up c.if-j-self.true
