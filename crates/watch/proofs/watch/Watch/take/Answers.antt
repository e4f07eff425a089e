use Rattle.std.proofs.Common.{is_some, sym, refl, ap, ◌∙◌}
use Rattle.std.proofs.lemmas.Result.{err_from_is_err_and}
use Rattle.strip.specs.Ring.{ring_of}
use Rattle.world.specs.declared.call.Call.TheVariants.{Take}
use Rattle.watch.specs.Memory.{memory}
use Rattle.watch.proofs.Promised.{refused_promise, same_promise}
use Rattle.watch.proofs.Pushing.{pushing_ok, pushing_err, pushed_row, pushed_stays}
use Rattle.watch.proofs.Refusing.{unready}
use Rattle.watch.proofs.Taken.{tray_refuses, take_kept}
use Rattle.watch.proofs.watch.Watch.take.Goals as goal

pub returns-in_err-arming-clause-call : goal.returns-in_err-arming-clause-call
returns-in_err-arming-clause-call g c =
    let p = err_from_is_err_and c.from_residual.result c.from_residual.ensures.1 in
    rw (p.1, p.2) (λ coming. unready g.met.S.Scale.lawful g.S.TestScale.reading c.args.self.now (ring_of c.args.strip.now) c.args.cells.now (ring_of c.args.tray.now) coming Take _ _ refl c.in_err-arming.ensures)

pub returns-in_err-row-clause-call : goal.returns-in_err-row-clause-call
returns-in_err-row-clause-call g c =
    let p = err_from_is_err_and c.from_residual-in_err-row.result c.from_residual-in_err-row.ensures.1 in
    rw (p.1, p.2) (λ coming.
    refused_promise g.met.S.Scale.lawful g.S.TestScale.reading Take
    (memory c.args.self.now (ring_of c.args.strip.now) c.args.cells.now (ring_of c.args.tray.now) coming)
    _ _ (c.in_err-row.ensures (ring_of c.args.tray.now) coming) refl)

pub returns-in_err-push : goal.returns-in_err-push
returns-in_err-push g c =
    let p = err_from_is_err_and c.from_residual-in_err-push.result c.from_residual-in_err-push.ensures.1 in
    let tray = ring_of c.args.tray.now in
    let some = pushing_err tray _ _ (sym c.push.ensures.answer ∙ c.in_err-push.was) in
    let row = c.in_ok-row.ensures in
    rw (p.1, p.2) record {
      strip_same = refl;
      tray_same = c.push.ensures.same;
      call = λ coming.
          same_promise g.met.S.Scale.lawful g.S.TestScale.reading Take
          (memory c.args.self.now (ring_of c.args.strip.now) c.args.cells.now (ring_of c.args.tray.now) coming)
          (memory c.args.self.now (ring_of c.args.strip.now) c.args.cells.now (ring_of c.push.new.self) coming)
          _ _
          (tray_refuses g.met.S.Scale.lawful g.S.TestScale.reading c.args.self.now (ring_of c.args.strip.now) c.args.cells.now (ring_of c.args.tray.now) coming (ap is_some c.in_ok-arming.ensures.0) c.in_ok-arming.ensures.1 row.0 c.args.tray.now.fits c.in_ok-row.row (row.1 (ring_of c.args.tray.now) coming) _ some)
          refl
          (ap (λ t. memory c.args.self.now (ring_of c.args.strip.now) c.args.cells.now t coming) (c.push.ensures.moved ∙ pushed_stays tray _ c.in_ok-row.row _ some));
    }

pub returns : goal.returns
returns g c =
    let tray = ring_of c.args.tray.now in
    let none = pushing_ok tray _ c.in_ok-push.field-0 (sym c.push.ensures.answer ∙ c.in_ok-push.was) in
    let row = c.in_ok-row.ensures in
    record {
      strip_same = c.let_go.ensures.same;
      tray_same = c.push.ensures.same;
      call = λ coming.
          take_kept g.met.S.Scale.lawful g.S.TestScale.reading c.args.self.now (ring_of c.args.strip.now) c.args.cells.now (ring_of c.args.tray.now) coming (ap is_some c.in_ok-arming.ensures.0) c.in_ok-arming.ensures.1 row.0 c.args.tray.now.fits c.in_ok-row.row (row.1 (ring_of c.args.tray.now) coming) none
          c.in_ok-arming.arming.now _ c.let_go.new.self (ring_of c.let_go.new.strip) (ring_of c.push.new.self)
          c.in_ok-arming.ensures.0 refl refl refl refl
          (rw c.span-span.ensures at c.let_go.ensures.done)
          (c.push.ensures.moved ∙ pushed_row tray _ c.in_ok-row.row none)
          (c.push.ensures.listed c.in_ok-push.was);
    }
