use Rattle.std.proofs.Common.{refl, ap, ◌∙◌}
use Rattle.std.proofs.lemmas.Result.{err_from_is_err_and}
use Rattle.refusal.specs.declared.Refusal.TheVariants.{Backward}
use Rattle.sample.specs.Coming.{rest}
use Rattle.strip.specs.Ring.{ring_of}
use Rattle.world.specs.Tests.{watch_refuses}
use Rattle.world.specs.declared.answer.Answer.TheVariants as answer
use Rattle.world.specs.declared.call.Call.TheVariants.{Draw}
use Rattle.watch.specs.Memory.{memory}
use Rattle.watch.proofs.Drawn.{draw_unfed, draw_late, draw_kept}
use Rattle.watch.proofs.Promised.{same_promise}
use Rattle.watch.proofs.Refusing.{unready}
use Rattle.watch.proofs.watch.Watch.draw.Goals as goal

pub returns-in_err-arming-clause-call : goal.returns-in_err-arming-clause-call
returns-in_err-arming-clause-call g c =
    let p = err_from_is_err_and c.from_residual.result c.from_residual.ensures.1 in
    rw (p.1, p.2) (λ tray. unready g.met.S.Scale.lawful g.S.TestScale.reading c.args.self.now (ring_of c.args.strip.now) c.args.cells.now tray (g.Q.Source.meaning c.args.source.now) Draw _ _ refl c.in_err-arming.ensures)

pub returns-in_err-sample-clause-call : goal.returns-in_err-sample-clause-call
returns-in_err-sample-clause-call g c =
    let p = err_from_is_err_and c.from_residual-in_err-sample.result c.from_residual-in_err-sample.ensures.1 in
    let meaning = g.Q.Source.meaning in
    rw (p.1, p.2) (λ tray.
    same_promise g.met.S.Scale.lawful g.S.TestScale.reading Draw
    (memory c.args.self.now (ring_of c.args.strip.now) c.args.cells.now tray (meaning c.args.source.now))
    (memory c.args.self.now (ring_of c.args.strip.now) c.args.cells.now tray (meaning c.next_sample.new.source))
    _ _
    (draw_unfed g.met.S.Scale.lawful g.S.TestScale.reading c.args.self.now (ring_of c.args.strip.now) c.args.cells.now (meaning c.args.source.now) tray c.in_ok-arming.arming.now c.in_ok-arming.ensures.0 c.in_ok-arming.ensures.1 _ c.in_err-sample.ensures.answer)
    refl
    (ap (memory c.args.self.now (ring_of c.args.strip.now) c.args.cells.now tray) c.next_sample.ensures.same))

pub returns-in_err-settled : goal.returns-in_err-settled
returns-in_err-settled g c =
    let p = err_from_is_err_and c.from_residual-in_err-settled.result c.from_residual-in_err-settled.ensures.1 in
    let meaning = g.Q.Source.meaning in
    let late = c.in_err-settled.ensures.answer in
    let sample = c.in_ok-sample.ensures.answer in
    rw (p.1, p.2) record {
      same = c.accept.ensures.same;
      call = λ tray.
          same_promise g.met.S.Scale.lawful g.S.TestScale.reading Draw
          (memory c.args.self.now (ring_of c.args.strip.now) c.args.cells.now tray (meaning c.args.source.now))
          (memory c.args.self.now (ring_of c.accept.new.strip) c.accept.new.cells tray (meaning c.next_sample.new.source))
          _ (watch_refuses Backward)
          (draw_late g.met.S.Scale.lawful g.S.TestScale.reading c.args.self.now (ring_of c.args.strip.now) c.args.cells.now (meaning c.args.source.now) tray c.in_ok-arming.arming.now c.in_ok-arming.ensures.0 c.in_ok-arming.ensures.1 sample.0 c.in_ok-sample.sample.row sample.1 late.1)
          (ap (λ r. answer.Refused (watch_refuses r)) late.0)
          (λ i. memory c.args.self.now (late.2 i) (late.3 i) tray (c.next_sample.ensures.same i));
    }

pub returns : goal.returns
returns g c =
    let meaning = g.Q.Source.meaning in
    let sample = c.in_ok-sample.ensures.answer in
    record {
      same = c.let_go.ensures.same ∙ c.accept.ensures.same;
      call = λ tray.
          draw_kept g.met.S.Scale.lawful g.S.TestScale.reading c.args.self.now (ring_of c.args.strip.now) c.args.cells.now (meaning c.args.source.now) tray c.in_ok-arming.arming.now c.in_ok-arming.ensures.0 c.in_ok-arming.ensures.1 sample.0 c.in_ok-sample.sample.row sample.1
          _ c.let_go.new.self (ring_of c.accept.new.strip) (ring_of c.let_go.new.strip) c.accept.new.cells (meaning c.step.new.self) c.in_ok-settled.settled c.in_ok-settled.ensures.answer
          refl refl refl refl
          (rw c.span-span.ensures at c.let_go.ensures.done)
          (c.step.ensures ∙ ap rest c.next_sample.ensures.same)
          c.args.strip.now.fits
          (record { early = c.in_ok-sample.sample.early; within = c.in_ok-sample.sample.within });
    }
