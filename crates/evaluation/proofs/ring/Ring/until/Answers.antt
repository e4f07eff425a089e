use Rattle.std.proofs.Common.{ap, ◌∙◌, rules, refl, arith}
use Rattle.evaluation.proofs.Connect.{until_open, until_over}
use Rattle.evaluation.proofs.Passing.{along_on}
use Rattle.evaluation.proofs.ring.Ring.until.Goals as goal

pub pass-found-requires : goal.pass-found-requires
pass-found-requires g c κs within = (search rules, (search rules, (tt, (tt, (along_on c.args.j c.args.self.now.view.count refl c.requires.j, (c.requires.same, c.requires.j))))))

pub returns-then-gap-from : goal.returns-then-gap-from
returns-then-gap-from g c = λ up.
    let near = c.if-gap-from.true in
    ap (λ y. record { low = c.pass-found.result.found.low; high = y }) c.or-high.ensures
    ∙ until_open g.met.S.Scale.lawful c.args.self.now c.args.right.now c.args.bounds.low c.args.bounds.high c.args.j c.requires.j up c.pass-found.result c.pass-found.ensures (omega (arith, c.gap.ensures, c.from.ensures))

pub returns : goal.returns
returns g c = λ up.
    let far = c.if-gap-from.false in
    until_over g.met.S.Scale.lawful c.args.self.now c.args.right.now c.args.bounds.low c.args.bounds.high c.args.j c.requires.j up c.pass-found.result c.pass-found.ensures (omega (arith, c.gap.ensures, c.from.ensures))
