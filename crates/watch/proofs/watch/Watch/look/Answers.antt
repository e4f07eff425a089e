use Rattle.std.proofs.Common.{refl, length, is_some, ap, ◌∙◌, arith}
use Rattle.std.proofs.lemmas.Result.{err_from_is_err_and}
use Rattle.strip.specs.Ring.{ring_of}
use Rattle.world.specs.declared.call.Call.TheVariants.{Look}
use Rattle.watch.specs.Cells.{ends_of}
use Rattle.watch.proofs.Readiness.{cell_with}
use Rattle.watch.proofs.Refusing.{unready, look_unseen, look_gone, look_shown}
use Rattle.watch.proofs.watch.Watch.look.Goals as goal

pub returns-in_err-arming : goal.returns-in_err-arming
returns-in_err-arming g c =
    let p = err_from_is_err_and c.from_residual.result c.from_residual.ensures.1 in
    rw (p.1, p.2) (λ tray coming. unready g.met.S.Scale.lawful g.S.TestScale.reading c.args.self.now (ring_of c.args.strip.now) c.args.cells.now tray coming (Look c.args.position) _ _ refl c.in_err-arming.ensures)

pub returns-then-position-self : goal.returns-then-position-self
returns-then-position-self g c =
    let ready = c.in_ok-arming.ensures in
    λ tray coming. look_unseen g.met.S.Scale.lawful g.S.TestScale.reading c.args.self.now (ring_of c.args.strip.now) c.args.cells.now tray coming (ap is_some ready.0, ready.1) c.args.position (omega arith)

pub returns-then-position-oldest : goal.returns-then-position-oldest
returns-then-position-oldest g c =
    let ready = c.in_ok-arming.ensures in
    λ tray coming. look_gone g.met.S.Scale.lawful g.S.TestScale.reading c.args.self.now (ring_of c.args.strip.now) c.args.cells.now tray coming (ap is_some ready.0, ready.1) c.args.position (omega arith) (omega arith)

pub returns : goal.returns
returns g c =
    let self = c.args.self.now in
    let cells = c.args.cells.now in
    let ready = c.in_ok-arming.ensures in
    λ tray coming. look_shown g.met.S.Scale.lawful g.S.TestScale.reading self (ring_of c.args.strip.now) cells tray coming (ap is_some ready.0, ready.1) c.args.position (omega arith) (omega arith) _
    (c.ends.ensures ∙ ap (ends_of g.S.Scale.ops) (c.cell.ensures ∙ cell_with self (ring_of c.args.strip.now) (length cells) c.in_ok-arming.arming.now ready.0 cells c.args.position))
