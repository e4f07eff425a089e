use Rattle.std.proofs.Common.{◌≡◌, ◌-◌, min, length, None, sym, refl, ap, ◌∙◌, subst}
use Rattle.std.proofs.lemmas.Result.{err_from_is_err_and}
use Rattle.std.proofs.lemmas.Bool.{eqb-false}
use Rattle.sample.specs.Limits.{stamp_limit}
use Rattle.strip.specs.Ring.{ring_of, push_refusal, pushed}
use Rattle.watch.specs.Refreshed.{Refreshed}
use Rattle.watch.proofs.Accepts.{comes_later, free_place, with_sample, too_late}
use Rattle.watch.proofs.Pushing.{pushing_ok, pushing_err, pushed_stays}
use Rattle.watch.proofs.Readiness.{fitting}
use Rattle.watch.proofs.watch.Watch.accept.Goals as goal

pub returns-in_err-push : goal.returns-in_err-push
returns-in_err-push g c =
    let p = err_from_is_err_and c.from_residual.result c.from_residual.ensures.1 in
    let self = c.args.self.now in
    let strip = ring_of c.args.strip.now in
    let fits = fitting self strip (length c.args.cells.now) c.args.arming.now c.requires.armed c.requires.fits in
    let free = free_place self strip (length c.args.cells.now) c.args.arming.now fits (eqb-false _ _ c.requires.room) c.args.strip.now.fits in
    let some = pushing_err strip _ _ (sym c.push.ensures.answer ∙ c.in_err-push.was) in
    let late = too_late strip c.row.result _ free (rw c.row.ensures c.args.sample.early) some in
    rw (p.1, p.2) record { same = c.push.ensures.same; answer = (late.0, rw (← c.row.ensures) late.1, c.push.ensures.moved ∙ pushed_stays strip _ c.row.result _ some, refl) }

pub returns : goal.returns
returns g c =
    let self = c.args.self.now in
    let strip = ring_of c.args.strip.now in
    let arming = c.args.arming.now in
    let row = c.args.sample.row in
    let fits = fitting self strip (length c.args.cells.now) arming c.requires.armed c.requires.fits in
    let free = free_place self strip (length c.args.cells.now) arming fits (eqb-false _ _ c.requires.room) c.args.strip.now.fits in
    let none = subst (λ r. push_refusal strip (min r.stamp (stamp_limit - 1)) ≡ None) c.row.ensures (pushing_ok strip _ c.in_ok-push.field-0 (sym c.push.ensures.answer ∙ c.in_ok-push.was)) in
    record {
      same = c.push.ensures.same;
      answer = record {
        later = comes_later strip strip row c.args.sample.early none free;
        strip_is = with_sample strip (ring_of c.push.new.self) row c.args.sample.early none (c.push.ensures.moved ∙ ap (λ r. pushed strip (min r.stamp (stamp_limit - 1)) r) c.row.ensures);
        cells_long = c.refresh.auto.cells;
        refreshed = subst (λ f. f) (λ i. Refreshed g.S.Scale.ops g.S.TestScale.reading arming.rule (c.rows.ensures i) (c.oldest.ensures i) self.accepted self.taken (c.last.ensures i) c.args.cells.now c.refresh.new.cells c.refresh.result) c.refresh.ensures;
      };
    }
