use Rattle.std.specs.Option.{IsSomeAnd, MatchOption}
use Rattle.scale.specs.Laws.{Ops}
use Rattle.sample.specs.declared.row.SampleRow.{SampleRow}
use Rattle.watch.specs.Calls.{with_row_stamp}
use Rattle.world.specs.declared.call.Call.TheVariants.{Alarm}
use Rattle.watch.specs.Cells.{cell_in}
use Rattle.std.proofs.Common.{refl, is_some, ◌≡◌, ℕ, List, Some, Option, rules, length, None, ap, ◌∙◌}
use Rattle.std.proofs.lemmas.Result.{err_from_is_err_and}
use Rattle.evaluation.specs.Memory.{row_at}
use Rattle.strip.specs.Ring.{ring_of}
use Rattle.watch.proofs.LastCells.{in_ring}
use Rattle.watch.proofs.Readiness.{cell_with, fitting}
use Rattle.watch.proofs.Refusing.{unready, alarm_named}
use Rattle.watch.proofs.watch.Watch.alarm.Goals as goal

pub returns-in_err-arming : goal.returns-in_err-arming
returns-in_err-arming g c =
    let p = err_from_is_err_and c.from_residual.result c.from_residual.ensures.1 in
    rw (p.1, p.2) (λ tray coming. unready g.met.S.Scale.lawful g.S.TestScale.reading c.args.self.now (ring_of c.args.strip.now) c.args.cells.now tray coming Alarm _ _ refl c.in_err-arming.ensures)

-- an answer that was mapped
mapped : {V : Type 0} (ops : Ops V) (rows : List SampleRow) (found : Option ℕ) (named : Option (ℕ × ℕ)) (Post : ℕ → ℕ × ℕ → Type 0) → MatchOption found (named ≡ None) (λ p. IsSomeAnd named (Post p)) → ((p : ℕ) (n : ℕ × ℕ) → Post p n → n ≡ (p, (row_at rows p).stamp)) → named ≡ with_row_stamp ops rows found
mapped ops rows None named Post none says = none
mapped ops rows (Some p) (Some n) Post is says = ap Some (says p n is)
mapped ops rows (Some p) None Post is says = absurd is

pub returns : goal.returns
returns g c =
    let self = c.args.self.now in
    let strip = ring_of c.args.strip.now in
    let cells = c.args.cells.now in
    let arming = c.in_ok-arming.arming.now in
    let ready = c.in_ok-arming.ensures in
    let fits = fitting self strip (length cells) arming ready.0 ready.1 in
    λ tray coming. alarm_named g.met.S.Scale.lawful g.S.TestScale.reading self strip cells tray coming (ap is_some ready.0, ready.1) c.last_cells-last_cells.result.lent.now c.first_failing-failing.result c.map.result
    (λ p. ap (λ ring. cell_in ring p) c.last_cells-last_cells.ensures ∙ in_ring arming.rule cells arming.places fits.cells_are p ∙ cell_with self strip (length cells) arming ready.0 cells p)
    c.first_failing-failing.ensures
    (mapped g.S.Scale.ops strip.rows c.first_failing-failing.result c.map.result _ c.map.ensures.cases (λ p n post. search rules))
