use Rattle.std.proofs.Common.{◌<◌, length, refl, ◌∙◌, arith}
use Rattle.replay.proofs.Chains.{going_none, going_on, same_call, refused_run, made_run}
use Rattle.replay.proofs.runs.replay.Goals as goal

pub returns-then-answers-calls-clause-run : goal.returns-then-answers-calls-clause-run
returns-then-answers-calls-clause-run g c =
    refused_run g.met.S.Scale.lawful g.S.TestScale.reading c.args.calls.now _ c.args.answers.now c.if-answers-calls.true c.args.strip.now.some c.args.tray.now.some

pub loop-i-init : goal.loop-i-init
loop-i-init g c = record {
  strip_same = refl;
  tray_same = refl;
  going = going_none g.S.Scale.ops g.S.TestScale.reading c.args.calls.now c.args.answers.now _;
}

pub loop-i-preserved : goal.loop-i-preserved
loop-i-preserved g c =
    let inv = c.loop-i.invariant in
    let long : c.loop-i.i < length c.loop-i.answers = omega arith in
    record {
      strip_same = c.serve-answer.ensures.strip_same ∙ inv.strip_same;
      tray_same = c.serve-answer.ensures.tray_same ∙ inv.tray_same;
      going = going_on g.S.Scale.ops g.S.TestScale.reading inv.going c.loop-i-test.true long c.index-calls-i.is c.store.ensures (same_call refl c.said.ensures c.serve-answer.ensures.keeps);
    }

pub returns-clause-run : goal.returns-clause-run
returns-clause-run g c =
    made_run g.met.S.Scale.lawful g.S.TestScale.reading c.args.calls.now _ _ c.args.answers.now c.loop-i.answers c.loop-i.i c.if-answers-calls.false (omega arith) c.loop-i.invariant.going c.args.strip.now.some c.args.tray.now.some
