use Rattle.std.proofs.Common.{ap, ap₂, ◌∙◌, arith}
use Rattle.std.specs.Int.{abs_diff}
use Rattle.evaluation.specs.Passes.{near}
use Rattle.evaluation.specs.Views.{gap_in}
use Rattle.evaluation.proofs.Passing.{turn, ended, through_none, through_more, passed_part, passed_all}
use Rattle.evaluation.proofs.ring.Ring.pass.Goals as goal
use Rattle.evaluation.proofs.ring.Ring.pass.Goals.{in-None, in-Some+then-gap-from}

pub stamp-requires : goal.stamp-requires
stamp-requires g c = (turn c.requires.1.1.1.1.0 c.into_iter-k-iterator.ensures.into_iter_gives c.loop-k.yielded _ c.loop-k.yielded_by _ _ c.in-Some.k c.in-Some.is c.next.ensures.steps).2

pub at-there-requires : goal.at-there-requires
at-there-requires g c =
    let at = (turn c.requires.1.1.1.1.0 c.into_iter-k-iterator.ensures.into_iter_gives c.loop-k.yielded _ c.loop-k.yielded_by _ _ c.in-Some.k c.in-Some.is c.next.ensures.steps).2 in
    let same = ap (λ v. v.count) c.requires.1.1.1.1.1.0 in
    omega arith

pub at-requires : goal.at-requires
at-requires g c =
    let at = (turn c.requires.1.1.1.1.0 c.into_iter-k-iterator.ensures.into_iter_gives c.loop-k.yielded _ c.loop-k.yielded_by _ _ c.in-Some.k c.in-Some.is c.next.ensures.steps).2 in
    let same = ap (λ v. v.count) c.requires.1.1.1.1.1.0 in
    omega arith

pub loop-k-init : goal.loop-k-init
loop-k-init g c = through_none g.S.Scale.ops c.args.self.now c.args.right.now c.args.bounds.low c.args.bounds.high c.args.j g.ks c.both-found.ensures c.worst.ensures c.both-so_far.ensures c.best.ensures

pub loop-k-preserved : goal.loop-k-preserved
loop-k-preserved g c =
    let at = turn c.requires.1.1.1.1.0 c.into_iter-k-iterator.ensures.into_iter_gives c.loop-k.yielded _ c.loop-k.yielded_by _ _ c.in-Some.k c.in-Some.is c.next.ensures.steps in
    let gap = c.abs_diff-gap.ensures ∙ ap₂ abs_diff c.stamp-here.ensures c.stamp.ensures in
    let inside = c.contain.ensures ∙ ap (near c.args.bounds.low c.args.bounds.high) gap in
    through_more g.S.Scale.ops c.args.self.now c.args.right.now c.args.bounds.low c.args.bounds.high c.args.j g.ks g.met.S.Scale.lawful c.loop-k.yielded c.in-Some.k at.1 c.loop-k.invariant inside c.at.ensures c.at-there.ensures c.and.ensures c.only_if.ensures c.or-found.ensures c.and-so_far.ensures

pub returns : goal.returns
returns g c =
    elim c.match-next.branch [
      | in-None w ↦ passed_all g.S.Scale.ops c.args.self.now c.args.right.now c.args.bounds.low c.args.bounds.high c.args.j g.ks _ (ended c.requires.1.1.1.1.0 c.into_iter-k-iterator.ensures.into_iter_gives c.loop-k.yielded _ c.loop-k.yielded_by _ _ w.in-None.is c.next.ensures.steps) c.loop-k.invariant
      | in-Some+then-gap-from w ↦
          let at = turn c.requires.1.1.1.1.0 c.into_iter-k-iterator.ensures.into_iter_gives c.loop-k.yielded _ c.loop-k.yielded_by _ _ w.in-Some.k w.in-Some.is c.next.ensures.steps in
          let far = w.if-gap-from.true in
          let high = w.from.ensures in
          let gap = w.abs_diff-gap.ensures ∙ ap₂ abs_diff c.stamp-here.ensures w.stamp.ensures ∙ ap (gap_in c.args.self.now.view c.args.j) at.1 in
          passed_part g.S.Scale.ops c.args.self.now c.args.right.now c.args.bounds.low c.args.bounds.high c.args.j g.ks _ at.0 (omega arith) c.loop-k.invariant
    ]
