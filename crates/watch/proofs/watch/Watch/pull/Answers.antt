use Rattle.std.proofs.Common.{ap, ◌∙◌, w64, SFits, rules}
use Rattle.std.proofs.lemmas.Result.{err_from_is_err_and}
use Rattle.std.proofs.lemmas.Int.{to_z-of_z}
use Rattle.strip.specs.Ring.{ring_of}
use Rattle.watch.proofs.Refusing.{pull_empty, pull_first}
use Rattle.watch.proofs.watch.Watch.pull.Goals as goal

pub returns-in_err-row : goal.returns-in_err-row
returns-in_err-row g c =
    let p = err_from_is_err_and c.from_residual.result c.from_residual.ensures.1 in
    let e = c.in_err-row.ensures in
    rw (p.1, p.2, e.answer.0) record {
      same = e.same;
      call = λ strip cells coming. pull_empty g.met.S.Scale.lawful g.S.TestScale.reading c.args.self.now strip cells (ring_of c.args.tray.now) coming (ring_of c.remove.new.self) e.answer.1 e.moved;
    }

pub returns : goal.returns
returns g c =
    let e = c.in_ok-row.ensures in
    let row = c.in_ok-row.row in
    let fits : SFits w64 row.value = search rules in
    record {
      same = e.same;
      call = λ strip cells coming. pull_first g.met.S.Scale.lawful g.S.TestScale.reading c.args.self.now strip cells (ring_of c.args.tray.now) coming (ring_of c.remove.new.self) row _ _ e.answer.0 e.listed e.moved c.stamp.ensures (c.restored.ensures ∙ ap g.S.Scale.ops.restored (to_z-of_z w64 row.value fits));
    }
