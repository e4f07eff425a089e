use Rattle.std.proofs.Common.{rules}
use Rattle.evaluation.proofs.Connect.{since_found}
use Rattle.evaluation.proofs.Passing.{along_back}
use Rattle.evaluation.proofs.ring.Ring.since.Goals as goal

pub pass-requires : goal.pass-requires
pass-requires g c κs within = (search rules, (search rules, (tt, (tt, (along_back c.args.j c.args.self.now.view.count c.rev-back.ensures.source c.requires.j, (c.requires.same, c.requires.j))))))

pub returns : goal.returns
returns g c = λ up. since_found g.met.S.Scale.lawful c.args.self.now c.args.right.now c.args.bounds.low c.args.bounds.high c.args.j c.requires.j up c.pass.result c.pass.ensures
