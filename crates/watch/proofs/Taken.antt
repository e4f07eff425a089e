-- A take from its steps: its tests, the tray's push, and letting positions go. Assumes nothing.
use Rattle.std.proofs.Common.{is_some, ◌≡◌, ℕ, ◌+◌, ◌-◌, ◌≤◌, min, true, List, [], ◌∷◌, ◌++◌, length, Some, None, sym, refl, ap, ◌∙◌, subst, arith}
use Rattle.std.specs.Option.{option_map}
use Rattle.refusal.specs.declared.Refusal.{Refusal}
use Rattle.std.proofs.lemmas.Bool.Decides.{nat_tests}
use Rattle.scale.specs.Laws.{Ops, Laws}
use Rattle.logic.specs.Formula.{span}
use Rattle.sample.specs.Coming.{Coming}
use Rattle.sample.specs.Limits.{stamp_limit}
use Rattle.sample.specs.declared.row.SampleRow.{SampleRow}
use Rattle.strip.specs.Ring.{Ring, push_refusal, with_row, contents}
use Rattle.strip.specs.declared.reading.ReadingRow.{ReadingRow}
use Rattle.evaluation.specs.Memory.{row_at}
use Rattle.evaluation.specs.declared.memory.Cell.{Cell}
use Rattle.world.specs.Steps.{formula_armed}
use Rattle.world.specs.Tests.{call_refusal, watch_refuses, rule_formula}
use Rattle.world.specs.declared.answer.Answer.TheVariants as answer
use Rattle.world.specs.declared.call.Call.TheVariants.{Take}
use Rattle.watch.specs.Calls.{Takes, Promise, taken_row}
use Rattle.watch.specs.Cells.{FirstLater}
use Rattle.watch.specs.Memory.{memory, facts_of, oldest_held, stored, watch_fits}
use Rattle.watch.specs.Refreshed.{LetGo, Takable}
use Rattle.watch.specs.declared.armed.Arming.{Arming}
use Rattle.watch.specs.declared.watch.Watch.{Watch}
use Rattle.watch.proofs.Promised.{accepted_promise}
use Rattle.watch.proofs.Pushing.{push_tests}
use Rattle.watch.proofs.Taking.{take_stands}

module _ {V : Type 0} {ops : Ops V} (laws : Laws ops) (read : ℕ → ℕ → V) (x : Watch V) (strip : Ring SampleRow) (cells : List Cell) (tray : Ring ReadingRow) (coming : Coming) (armed : is_some x.arming ≡ true) (fits : watch_fits x strip (length cells) ≡ true) (T : Takable ops x cells) (within : tray.kept ≤ length tray.rows) (row : ReadingRow) (row_is : row ≡ taken_row ops (memory x strip cells tray coming)) where
  -- the stamp of a row that was read is its own nearest stamp
  stamp_is : min row.stamp (stamp_limit - 1) ≡ (row_at strip.rows x.taken).stamp
  stamp_is = ap (λ (r : ReadingRow). min r.stamp (stamp_limit - 1)) row_is ∙ (let e : min (row_at strip.rows x.taken).stamp (stamp_limit - 1) ≡ (row_at strip.rows x.taken).stamp = omega arith in e)

  only_tray : call_refusal Take (facts_of ops Take (memory x strip cells tray coming)) ≡ option_map watch_refuses (push_refusal tray (min row.stamp (stamp_limit - 1)))
  only_tray = rw (stamp_is, push_tests tray (row_at strip.rows x.taken).stamp within) (grind (arith, nat_tests, T.untaken, T.settled))

  pub tray_refuses : (why : Refusal) → push_refusal tray (min row.stamp (stamp_limit - 1)) ≡ Some why → call_refusal Take (facts_of ops Take (memory x strip cells tray coming)) ≡ Some (watch_refuses why)
  tray_refuses why e = only_tray ∙ ap (option_map watch_refuses) e

  module _ (none : push_refusal tray (min row.stamp (stamp_limit - 1)) ≡ None) where
    no_refusal : call_refusal Take (facts_of ops Take (memory x strip cells tray coming)) ≡ None
    no_refusal = only_tray ∙ ap (option_map watch_refuses) none

    pub take_kept :
        (arming : Arming) (x₁ x' : Watch V) (strip' : Ring SampleRow) (tray' : Ring ReadingRow) →
        x.arming ≡ Some arming →
        x₁.arming ≡ x.arming →
        x₁.accepted ≡ x.accepted →
        x₁.taken ≡ x.taken + 1 →
        x₁.held ≡ x.held →
        LetGo x₁ x' strip strip' (span (rule_formula arming.rule)) →
        tray' ≡ with_row tray (min row.stamp (stamp_limit - 1)) row →
        contents tray' ≡ contents tray ++ row ∷ [] →
        Promise ops read Take (memory x strip cells tray coming) (memory x' strip' cells tray' coming) (answer.Took x.taken)
    take_kept arming x₁ x' strip' tray' is stays accepted taken held L pushed listed =
        let old : oldest_held x₁ ≡ oldest_held x = omega arith in
        let does : Takes ops (memory x strip cells tray coming) (memory x' strip' cells tray' coming) (answer.Took x.taken) = record {
          says = refl;
          same_rule = L.same_rule ∙ stays;
          accepted_stays = L.accepted_stays ∙ accepted;
          taken_more = L.taken_stays ∙ taken;
          lets_go = subst (λ f. f) (λ i. FirstLater strip.rows (old i) (taken i) strip.last (span (formula_armed (option_map stored (sym is i)))) (oldest_held x')) L.lets_go;
          strip_is = L.strip_is;
          cells_stay = refl;
          tray_is = pushed ∙ ap (λ t. with_row tray t row) stamp_is ∙ ap (with_row tray (row_at strip.rows x.taken).stamp) row_is;
          tray_more = listed ∙ ap (λ r. contents tray ++ r ∷ []) row_is;
          coming_stays = refl;
        } in
        accepted_promise laws read Take (memory x strip cells tray coming) (memory x' strip' cells tray' coming) (answer.Took x.taken) no_refusal does
        (take_stands laws read (memory x strip cells tray coming) (memory x' strip' cells tray' coming) (answer.Took x.taken) no_refusal does)
