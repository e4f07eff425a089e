-- Look and alarm answer as the model does, and change nothing. Assumes nothing.
use Rattle.std.proofs.Common.{◌≡◌, ℕ, zero, suc, ◌+◌, ◌-◌, ◌<◌, ◌≤◌, not, get_or, None, Option, refl, ap, ◌∙◌, ap₂, add-one, arith}
use Rattle.std.proofs.lemmas.Grind.{common_steps}
use Rattle.scale.specs.Laws.{Ops, Laws}
use Rattle.logic.specs.Meaning.{fails_at, lowest_failing}
use Rattle.logic.specs.Trace.{blank, trace}
use Rattle.sample.specs.declared.row.SampleRow.{SampleRow}
use Rattle.evaluation.specs.Memory.{row_at}
use Rattle.world.specs.Steps.{answered, changed, rule_in, shown, with_stamp}
use Rattle.world.specs.Tests.{call_refusal}
use Rattle.world.specs.World.{World}
use Rattle.world.specs.declared.answer.Answer.{Answer}
use Rattle.world.specs.declared.answer.Answer.TheVariants as answer
use Rattle.world.specs.declared.call.Call.TheVariants.{Look, Alarm}
use Rattle.watch.specs.Calls.{Looks, Alarms, with_row_stamp}
use Rattle.watch.specs.Cells.{fails, lowest}
use Rattle.watch.specs.Memory.{Memory, facts_of, last_cell, sizes}
use Rattle.watch.specs.Stands.{Stands}
use Rattle.watch.proofs.Found.{cell_is, held_agrees, row_is, untaken_held}
use Rattle.watch.proofs.Passed.{look_passed, alarm_passed}

module _ {V : Type 0} {ops : Ops V} (laws : Laws ops) (read : ℕ → ℕ → V) where
  pub look_stands : (p : ℕ) (m : Memory V) (a : Answer V) → call_refusal (Look p) (facts_of ops (Look p) m) ≡ None → Looks ops p m a → (w : World V) → Stands ops read w m → (a ≡ answered ops read (Look p) w) × Stands ops read (changed ops read (sizes m) (Look p) w) m
  look_stands p m a e says w s =
      let t = look_passed ops m p e in
      let h = held_agrees w m s p ∙ t.1 in
      let c = cell_is w m s p h in
      let x = shown ops read (rule_in w) w.capture p in
      let low : ops.restored (last_cell m.watch m.cells p).low ≡ x.low = ap (λ k. ops.restored k.low) c ∙ laws.restores x.low in
      let high : ops.restored (last_cell m.watch m.cells p).high ≡ x.high = ap (λ k. ops.restored k.high) c ∙ laws.restores x.high in
      let shows : V → V → Answer V = λ l r. answer.Showed (record { low = l; high = r }) in
      (says ∙ ap₂ shows low high, s)

  -- the search in memory and the search in the model, and the stamps of what they find
  alarm_same : (m : Memory V) (w : World V) (j c : ℕ) → ((p : ℕ) → j ≤ p → p < j + c → (fails ops (last_cell m.watch m.cells p) ≡ fails_at ops read (trace w.capture) (rule_in w) p) × (row_at m.strip.rows p ≡ get_or w.capture p blank)) → with_row_stamp ops m.strip.rows (lowest (λ p. fails ops (last_cell m.watch m.cells p)) j c) ≡ with_stamp ops read w.capture (lowest_failing ops read (trace w.capture) (rule_in w) j c)
  unfolding lowest_failing
  alarm_same m w j zero same = refl
  alarm_same m w j (suc c) same =
      let here = same j (omega arith) (omega arith) in
      let on = alarm_same m w (suc j) c (λ p x y. same p (omega arith) (omega arith)) in
      let stamp : (row_at m.strip.rows j).stamp ≡ (get_or w.capture j blank).stamp = ap (λ (r : SampleRow). r.stamp) here.1 in
      rw (here.0, add-one j) (grind (arith, common_steps, stamp, on))

  pub alarm_stands : (m : Memory V) (a : Answer V) → call_refusal Alarm (facts_of ops Alarm m) ≡ None → Alarms ops m a → (w : World V) → Stands ops read w m → (a ≡ answered ops read Alarm w) × Stands ops read (changed ops read (sizes m) Alarm w) m
  alarm_stands m a e says w s =
      let t = alarm_passed ops m e in
      let same = alarm_same m w m.watch.taken (m.watch.accepted - m.watch.taken) (λ p x y.
      let h = untaken_held w m s p x (omega arith) in (
        ap (fails ops) (cell_is w m s p h) ∙ ap (λ v. not (ops.passes v)) (laws.restores (shown ops read (rule_in w) w.capture p).high),
        row_is w m s t.long p h,
      )) in
      let named : Option (ℕ × ℕ) → Answer V = λ o. answer.Alarmed o in (
        says ∙ ap named (same ∙ ap₂ (λ j n. with_stamp ops read w.capture (lowest_failing ops read (trace w.capture) (rule_in w) j (n - j))) s.taken_is s.accepted_is),
        s,
      )
