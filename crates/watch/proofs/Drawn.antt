-- A draw from its steps: its tests, accepting the sample, and letting positions go. Assumes nothing.
use Rattle.std.proofs.Common.{◌≡◌, ℕ, ◌+◌, ◌≤◌, eqb, true, false, cond, ltb, List, [], ◌∷◌, length, get_or, is_some, Some, None, Ok, sym, refl, ap, ◌∙◌, subst, arith}
use Rattle.std.specs.Option.{option_map}
use Rattle.std.proofs.lemmas.Bool.Decides.{nat_tests}
use Rattle.refusal.specs.declared.Refusal.TheVariants as refusal
use Rattle.std.proofs.lemmas.Grind.{common_steps}
use Rattle.scale.specs.Laws.{Ops, Laws}
use Rattle.logic.specs.Formula.{span}
use Rattle.logic.specs.Trace.{blank}
use Rattle.sample.specs.Coming.{Coming, first, rest}
use Rattle.sample.specs.Rows.{Fits}
use Rattle.sample.specs.declared.ending.Ending.{Ending}
use Rattle.sample.specs.declared.row.SampleRow.{SampleRow}
use Rattle.strip.specs.Ring.{Ring, with_row, with_newest}
use Rattle.strip.specs.declared.reading.ReadingRow.{ReadingRow}
use Rattle.evaluation.specs.declared.memory.Cell.{Cell}
use Rattle.world.specs.Steps.{formula_armed, places_armed}
use Rattle.world.specs.Tests.{call_refusal, watch_refuses, rule_formula}
use Rattle.world.specs.declared.answer.Answer.{Answer}
use Rattle.world.specs.declared.answer.Answer.TheVariants as answer
use Rattle.world.specs.declared.call.Call.TheVariants.{Draw}
use Rattle.world.specs.declared.refused.Refused.{Refused}
use Rattle.watch.specs.Calls.{Draws, Promise}
use Rattle.watch.specs.Cells.{FirstLater}
use Rattle.watch.specs.Memory.{Memory, memory, facts_of, oldest_held, places_of, stored, takes_later, watch_fits}
use Rattle.watch.specs.Refreshed.{Accepting, LetGo, Refreshed, sample_refusal}
use Rattle.watch.specs.declared.armed.Arming.{Arming}
use Rattle.watch.specs.declared.watch.Watch.{Watch}
use Rattle.watch.proofs.Drawing.{draw_stands}
use Rattle.watch.proofs.Newly.{few_settled}
use Rattle.watch.proofs.Promised.{accepted_promise}

-- the first sample of what is coming
first_coming : (samples : List SampleRow) (ending : Ending) (row : SampleRow) → first (record { samples = samples; ending = ending }) ≡ Ok row → (ltb 0 (length samples) ≡ true) × (get_or samples 0 blank ≡ row)
first_coming [] ending row e = grind arith
first_coming (x ∷ xs) ending row e = grind (arith, nat_tests)

module _ {V : Type 0} {ops : Ops V} (laws : Laws ops) (read : ℕ → ℕ → V) (x : Watch V) (strip : Ring SampleRow) (cells : List Cell) (coming : Coming) (tray : Ring ReadingRow) where
  abbrev here : Memory V
  here = memory x strip cells tray coming

  module _ (arming : Arming) (armed : x.arming ≡ Some arming) (fits : watch_fits x strip (length cells) ≡ true) where
    full_is : eqb x.held (places_of x) ≡ eqb x.held arming.places
    full_is = ap (λ o. eqb x.held (places_armed (option_map stored o))) armed

    pub draw_unfed : (why : Refused) → sample_refusal (eqb x.held arming.places) coming ≡ Some why → call_refusal Draw (facts_of ops Draw here) ≡ Some why
    draw_unfed why e =
        let is : is_some x.arming ≡ true = ap is_some armed in
        let full = full_is in
        grind (arith, common_steps)

    module _ (room : eqb x.held arming.places ≡ false) where
      module _ (row : SampleRow) (next : first coming ≡ Ok row) where
        next_row : get_or coming.samples 0 blank ≡ row
        next_row = (first_coming coming.samples coming.ending row next).1

        only_stamp : call_refusal Draw (facts_of ops Draw here) ≡ cond (takes_later strip row.stamp) None (Some (watch_refuses refusal.Backward))
        only_stamp =
            let is : is_some x.arming ≡ true = ap is_some armed in
            let full = full_is in
            let some = (first_coming coming.samples coming.ending row next).0 in
            rw (← next_row) (grind (arith, common_steps))

        pub draw_late : takes_later strip row.stamp ≡ false → call_refusal Draw (facts_of ops Draw here) ≡ Some (watch_refuses refusal.Backward)
        draw_late e = only_stamp ∙ ap (λ b. cond b None (Some (watch_refuses refusal.Backward))) e

        pub draw_kept :
            (x₁ x' : Watch V) (strip₁ strip' : Ring SampleRow) (cells' : List Cell) (coming' : Coming) (settled : ℕ) →
            Accepting ops read x arming strip strip₁ cells cells' row settled →
            x₁.arming ≡ x.arming →
            x₁.accepted ≡ x.accepted + 1 →
            x₁.taken ≡ x.taken →
            x₁.held ≡ x.held + 1 →
            LetGo x₁ x' strip₁ strip' (span (rule_formula arming.rule)) →
            coming' ≡ rest coming →
            strip.kept ≤ length strip.rows →
            Fits row →
            Promise ops read Draw here (memory x' strip' cells' tray coming') (answer.Drew (record { position = x.accepted; settled = settled }))
        draw_kept x₁ x' strip₁ strip' cells' coming' settled A stays more taken held L stepped within fit =
            let m' = memory x' strip' cells' tray coming' in
            let a : Answer V = answer.Drew (record { position = x.accepted; settled = settled }) in
            let none : call_refusal Draw (facts_of ops Draw here) ≡ None = only_stamp ∙ ap (λ b. cond b None (Some (watch_refuses refusal.Backward))) A.later in
            let rows : strip₁.rows ≡ strip'.rows = sym (ap (λ (r : Ring SampleRow). r.rows) L.strip_is) in
            let last : strip₁.last ≡ strip'.last = sym (ap (λ (r : Ring SampleRow). r.last) L.strip_is) in
            let old : oldest_held x₁ ≡ oldest_held x = omega arith in
            let does : Draws here m' a = record {
              count = settled;
              count_few = few_settled ops read A.refreshed;
              says = refl;
              same_rule = L.same_rule ∙ stays;
              accepted_more = L.accepted_stays ∙ more;
              taken_stays = L.taken_stays ∙ taken;
              lets_go = subst (λ f. f) (λ i. FirstLater (rows i) (old i) (taken i) (last i) (span (formula_armed (option_map stored (sym armed i)))) (oldest_held x')) L.lets_go;
              strip_is = L.strip_is ∙ ap (λ s. with_newest s x'.held) A.strip_is ∙ ap (λ (r : SampleRow). with_newest (with_row strip r.stamp r) x'.held) (sym next_row);
              cells_long = A.cells_long;
              tray_stays = refl;
              coming_is = stepped;
            } in
            accepted_promise laws read Draw here m' a none does
            (draw_stands laws read here m' a none does within (subst Fits (sym next_row) fit) arming armed
            (subst (λ r. Refreshed ops read arming.rule r (oldest_held x) x.accepted x.taken strip.last cells cells' settled) rows A.refreshed))
