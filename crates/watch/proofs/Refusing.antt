-- The promises of look, alarm, pull and arm, from the tests in the code. Assumes nothing.
use Rattle.std.proofs.Common.{is_some, ◌≡◌, ℕ, ◌-◌, ◌<◌, ◌≤◌, min, true, false, cond, List, ◌∷◌, length, Some, None, Err, Option, refl, ap, ◌∙◌, arith}
use Rattle.std.proofs.lemmas.Bool.Decides.{nat_tests}
use Rattle.std.proofs.lemmas.Grind.{common_steps}
use Rattle.refusal.specs.declared.Refusal.{Refusal}
use Rattle.refusal.specs.declared.Refusal.TheVariants as refusal
use Rattle.scale.specs.Laws.{Ops, Laws}
use Rattle.rule.specs.declared.rule.Rule.{Rule}
use Rattle.sample.specs.Coming.{Coming}
use Rattle.sample.specs.Limits.{stamp_limit}
use Rattle.sample.specs.declared.row.SampleRow.{SampleRow}
use Rattle.strip.specs.Ring.{Ring, contents, without_oldest}
use Rattle.strip.specs.declared.reading.ReadingRow.{ReadingRow}
use Rattle.evaluation.specs.declared.memory.Cell.{Cell}
use Rattle.world.specs.Tests.{arm_fits, call_refusal, watch_refuses}
use Rattle.world.specs.declared.answer.Answer.{Answer}
use Rattle.world.specs.declared.answer.Answer.TheVariants as answer
use Rattle.world.specs.declared.answer.Shown.{Shown}
use Rattle.world.specs.declared.call.Call.{Call}
use Rattle.world.specs.declared.call.Call.TheVariants.{Arm, Look, Alarm, Pull}
use Rattle.world.specs.declared.refused.Refused.{Refused}
use Rattle.watch.specs.Calls.{Promise, Arms, Pulls, with_row_stamp}
use Rattle.watch.specs.Cells.{cell_in, ends_of, fails, lowest}
use Rattle.watch.specs.Memory.{Memory, memory, facts_of, last_cell, oldest_held, reading_of, sizes, watch_fits}
use Rattle.watch.specs.Ready.{readiness}
use Rattle.watch.specs.declared.watch.Watch.{Watch}
use Rattle.watch.proofs.Arming.{arm_stands}
use Rattle.watch.proofs.Looking.{look_stands, alarm_stands}
use Rattle.watch.proofs.Promised.{accepted_promise, refused_promise, same_promise}
use Rattle.watch.proofs.Pulling.{pull_stands}
use Rattle.watch.proofs.Readiness.{ready_refuses}

module _ {V : Type 0} {ops : Ops V} (laws : Laws ops) (read : ℕ → ℕ → V) (x : Watch V) (strip : Ring SampleRow) (cells : List Cell) (tray : Ring ReadingRow) (coming : Coming) where
  abbrev here : Memory V
  here = memory x strip cells tray coming

  -- most calls are refused alike where the watch is idle or the memory does not fit
  pub unready : (c : Call) (rest : Option Refused) (why : Refusal) → call_refusal c (facts_of ops c here) ≡ cond (is_some x.arming) (cond (watch_fits x strip (length cells)) rest (Some (watch_refuses refusal.Memory))) (Some (watch_refuses refusal.Idle)) → readiness x strip (length cells) ≡ Err why → Promise ops read c here here (answer.Refused (watch_refuses why))
  unready c rest why tests e = refused_promise laws read c here _ (watch_refuses why) (tests ∙ ready_refuses x strip (length cells) why rest e) refl

  module _ (ready : (is_some x.arming ≡ true) × (watch_fits x strip (length cells) ≡ true)) where
    pub look_unseen : (p : ℕ) → x.accepted ≤ p → Promise ops read (Look p) here here (answer.Refused (watch_refuses refusal.Unseen))
    look_unseen p far = refused_promise laws read (Look p) here _ (watch_refuses refusal.Unseen) (grind (arith, nat_tests)) refl

    pub look_gone : (p : ℕ) → p < x.accepted → p < oldest_held x → Promise ops read (Look p) here here (answer.Refused (watch_refuses refusal.Gone))
    look_gone p near old = refused_promise laws read (Look p) here _ (watch_refuses refusal.Gone) (grind (arith, nat_tests)) refl

    pub look_shown : (p : ℕ) → p < x.accepted → oldest_held x ≤ p → (shown : Shown V) → shown ≡ ends_of ops (last_cell x cells p) → Promise ops read (Look p) here here (answer.Showed shown)
    look_shown p near held shown e =
        let says : ◌≡◌ {A = Answer V} (answer.Showed shown) (answer.Showed (ends_of ops (last_cell x cells p))) = λ i. answer.Showed (e i) in
        let none : call_refusal (Look p) (facts_of ops (Look p) here) ≡ None = grind (arith, nat_tests) in
        accepted_promise laws read (Look p) here here _ none (says, refl) (look_stands laws read p here _ none says)

    pub alarm_named : (ring : List Cell) (o : Option ℕ) (named : Option (ℕ × ℕ)) → ((p : ℕ) → cell_in ring p ≡ last_cell x cells p) → o ≡ lowest (λ p. fails ops (cell_in ring p)) x.taken (x.accepted - x.taken) → named ≡ with_row_stamp ops strip.rows o → Promise ops read Alarm here here (answer.Alarmed named)
    alarm_named ring o named same e stamped =
        let found : o ≡ lowest (λ p. fails ops (last_cell x cells p)) x.taken (x.accepted - x.taken) = e ∙ (λ i. lowest (λ p. fails ops (same p i)) x.taken (x.accepted - x.taken)) in
        let says : ◌≡◌ {A = Answer V} (answer.Alarmed named) (answer.Alarmed (with_row_stamp ops strip.rows (lowest (λ p. fails ops (last_cell x cells p)) x.taken (x.accepted - x.taken)))) = ap (λ (n : Option (ℕ × ℕ)). answer.Alarmed n) (stamped ∙ ap (with_row_stamp ops strip.rows) found) in
        let none : call_refusal Alarm (facts_of ops Alarm here) ≡ None = grind (arith, common_steps) in
        accepted_promise laws read Alarm here here _ none (says, refl) (alarm_stands laws read here _ none says)

  pub pull_empty : (tray' : Ring ReadingRow) → tray.kept ≡ 0 → tray' ≡ tray → Promise ops read Pull here (memory x strip cells tray' coming) (answer.Refused (watch_refuses refusal.TrayEmpty))
  pull_empty tray' e same = same_promise laws read Pull here _ _ (watch_refuses refusal.TrayEmpty) (grind (arith, nat_tests)) refl (ap (λ t. memory x strip cells t coming) same)

  pub pull_first : (tray' : Ring ReadingRow) (row : ReadingRow) (stamp : ℕ) (value : V) → 0 < tray.kept → contents tray ≡ row ∷ contents tray' → tray' ≡ without_oldest tray → stamp ≡ min row.stamp (stamp_limit - 1) → value ≡ ops.restored row.value → Promise ops read Pull here (memory x strip cells tray' coming) (answer.Pulled (record { position = row.position; stamp = stamp; value = value }))
  pull_first tray' row stamp value some listed moved t v =
      let after = memory x strip cells tray' coming in
      let a : Answer V = answer.Pulled (record { position = row.position; stamp = stamp; value = value }) in
      let says : a ≡ answer.Pulled (reading_of ops row) = λ i. answer.Pulled (record { position = row.position; stamp = t i; value = v i }) in
      let none : call_refusal Pull (facts_of ops Pull here) ≡ None = grind (arith, nat_tests) in
      let does : Pulls ops here after a = record { row = row; says = says; first_was = listed; tray_is = moved; watch_stays = refl; strip_stays = refl; cells_stay = refl; coming_stays = refl } in
      accepted_promise laws read Pull here after a none does (pull_stands laws read here after a none does)

  pub arm_armed : (rule : Rule) → is_some x.arming ≡ true → Promise ops read (Arm rule) here here (answer.Refused (watch_refuses refusal.Armed))
  arm_armed rule e = refused_promise laws read (Arm rule) here _ (watch_refuses refusal.Armed) (grind (arith, common_steps)) refl

  pub arm_unfit : (rule : Rule) → is_some x.arming ≡ false → arm_fits rule (sizes here) strip.taken ≡ false → Promise ops read (Arm rule) here here (answer.Refused (watch_refuses refusal.Memory))
  arm_unfit rule e f = refused_promise laws read (Arm rule) here _ (watch_refuses refusal.Memory) (grind (arith, common_steps)) refl

  pub arm_done : (rule : Rule) (x' : Watch V) → is_some x.arming ≡ false → arm_fits rule (sizes here) strip.taken ≡ true → Arms rule here (memory x' strip cells tray coming) answer.Armed → Promise ops read (Arm rule) here (memory x' strip cells tray coming) answer.Armed
  arm_done rule x' e f does =
      let none : call_refusal (Arm rule) (facts_of ops (Arm rule) here) ≡ None = grind (arith, common_steps) in
      accepted_promise laws read (Arm rule) here (memory x' strip cells tray coming) answer.Armed none does (arm_stands ops read rule here (memory x' strip cells tray coming) answer.Armed none does)
