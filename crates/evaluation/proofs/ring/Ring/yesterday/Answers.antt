use Rattle.std.proofs.Common.{ap, ◌∙◌, arith}
use Rattle.evaluation.specs.Told.{told}
use Rattle.evaluation.proofs.Connect.{yesterday_none, yesterday_there}
use Rattle.evaluation.proofs.ring.Ring.yesterday.Goals as goal

pub returns-then-j-eq0 : goal.returns-then-j-eq0
returns-then-j-eq0 g c = λ up. let none = yesterday_none g.S.Scale.ops c.args.self.now c.args.bounds.low c.args.bounds.high c.args.j c.if-j-eq0.true in ap told c.both.ensures ∙ ap (λ w. record { low = w; high = w }) c.worst.ensures ∙ none

pub returns : goal.returns
returns g c = λ up. c.ends_near.ensures ∙ yesterday_there g.S.Scale.ops c.args.self.now c.args.bounds.low c.args.bounds.high c.args.j up (omega arith) c.requires
