-- Memory that stands for a world refuses a call exactly as the model does there. Assumes nothing.
use Rattle.std.proofs.Common.{◌≡◌, ℕ, ◌-◌, ◌<◌, Bool, true, cond, ◌&&◌, ◌||◌, eqb, ltb, List, ◌++◌, length, get_or, Some, None, Option, sym, refl, ap, ◌∙◌, ap₂, arith}
use Rattle.std.proofs.lemmas.List.{get_or-map, length-map}
use Rattle.std.proofs.lemmas.Bool.{eq-eqb, ltb-true}
use Rattle.std.proofs.lemmas.Bool.Decides.{nat_tests}
use Rattle.scale.specs.Laws.{Ops, Laws}
use Rattle.logic.specs.Trace.{blank}
use Rattle.sample.specs.declared.row.SampleRow.{SampleRow}
use Rattle.evaluation.specs.Memory.{row_at}
use Rattle.world.specs.Steps.{held_count, places_in, places_armed, fits_armed, facts_in, later, next_sample, reading_in, reading_stamps, rule_in, sample_stamps, settled, shown}
use Rattle.world.specs.Tests.{call_refusal}
use Rattle.world.specs.World.{Armed, Sizes, World}
use Rattle.world.specs.declared.call.Call.{Call}
use Rattle.world.specs.declared.call.Call.TheVariants.{Arm, Draw, Look, Alarm, Take, Pull}
use Rattle.world.specs.declared.reading.Reading.{Reading}
use Rattle.world.specs.declared.refused.Refused.{Refused}
use Rattle.watch.specs.Cells.{same_ends}
use Rattle.watch.specs.Memory.{Memory, armed_of, facts_of, sizes, last_cell, places_of, takes_later, watch_fits}
use Rattle.watch.specs.Stands.{Stands}
use Rattle.watch.proofs.Found.{armed_same, held_agrees, untaken_held, cell_is, row_is}
use Rattle.watch.proofs.Passed.{is_ready}

-- a test that comes out the same, with what follows the same where it holds
test_same : (a b : Bool) (X Y : Option Refused) (why why' : Refused) → a ≡ b → why ≡ why' → (b ≡ true → X ≡ Y) → cond a X (Some why) ≡ cond b Y (Some why')
test_same a b X Y why why' e f h = grind arith

later_same : (stamps : List ℕ) (taken last t : ℕ) → taken ≡ length stamps → (0 < length stamps → last ≡ get_or stamps (length stamps - 1) 0) → later stamps t ≡ (eqb taken 0 || ltb last t)
unfolding later
later_same stamps taken last t e f = grind (arith, nat_tests, f)

-- the tray's size does not matter to what a watch was armed with
trayless : (o : Option Armed) (s : Sizes) → fits_armed o s ≡ fits_armed o (record { places = s.places; cells = s.cells; tray_places = 0 })
trayless None s = refl
trayless (Some a) s = refl

module _ {V : Type 0} {ops : Ops V} (laws : Laws ops) (read : ℕ → ℕ → V) (w : World V) (m : Memory V) (s : Stands ops read w m) where
  fits_same : fits_armed w.armed (sizes m) ≡ watch_fits m.watch m.strip (length m.cells)
  fits_same =
      let taken = eq-eqb m.strip.taken m.watch.accepted (s.strip_taken ∙ sym s.accepted_is) in
      let kept = eq-eqb m.strip.kept m.watch.held (s.strip_kept ∙ sym s.held_is) in
      let and_both : (a b c : Bool) → b ≡ true → c ≡ true → a ≡ (a && (b && c)) = λ a b c x y. grind arith in
      ap (λ o. fits_armed o (sizes m)) (sym s.armed_is) ∙ trayless (armed_of m.watch) (sizes m) ∙ and_both _ _ _ taken kept

  full_same : eqb (held_count w) (places_in w) ≡ eqb m.watch.held (places_of m.watch)
  full_same = ap₂ eqb (sym s.held_is) (ap places_armed (sym s.armed_is))

  pub sample_later : later (sample_stamps w) (next_sample w).stamp ≡ takes_later m.strip (get_or m.coming.samples 0 blank).stamp
  sample_later =
      let long = length-map w.capture (λ (x : SampleRow). x.stamp) in
      later_same (sample_stamps w) m.strip.taken m.strip.last (next_sample w).stamp
      (s.strip_taken ∙ sym long)
      (λ some. s.strip_last (omega arith)
      ∙ sym (ap (λ n. get_or (sample_stamps w) (n - 1) 0) long ∙ get_or-map (λ (x : SampleRow). x.stamp) w.capture (length w.capture - 1) blank 0 (omega arith)))
      ∙ ap (λ c. takes_later m.strip (get_or c.samples 0 blank).stamp) (sym s.coming_is)

  settled_same : ltb m.watch.taken m.watch.accepted ≡ true → settled ops read (rule_in w) w.capture w.taken ≡ same_ends ops (last_cell m.watch m.cells m.watch.taken)
  settled_same u =
      let h = untaken_held w m s m.watch.taken (omega arith) (ltb-true m.watch.taken m.watch.accepted u) in
      let x = shown ops read (rule_in w) w.capture m.watch.taken in
      ap (λ k. settled ops read (rule_in w) w.capture k) (sym s.taken_is)
      ∙ sym (ap (same_ends ops) (cell_is w m s m.watch.taken h) ∙ ap₂ ops.same (laws.restores x.low) (laws.restores x.high))

  tray_later_same : watch_fits m.watch m.strip (length m.cells) ≡ true → ltb m.watch.taken m.watch.accepted ≡ true → later (reading_stamps w) (reading_in ops read w).stamp ≡ takes_later m.tray (row_at m.strip.rows m.watch.taken).stamp
  tray_later_same f u =
      let h = untaken_held w m s m.watch.taken (omega arith) (ltb-true m.watch.taken m.watch.accepted u) in
      let long = length-map (w.pulled ++ w.tray) (λ (r : Reading V). r.stamp) in
      later_same (reading_stamps w) m.tray.taken m.tray.last (reading_in ops read w).stamp
      (s.tray_taken ∙ sym long)
      (λ some. s.tray_last (omega arith) ∙ ap (λ n. get_or (reading_stamps w) (n - 1) 0) (sym long))
      ∙ ap (takes_later m.tray) (ap (λ k. (get_or w.capture k blank).stamp) (sym s.taken_is) ∙ sym (ap (λ (x : SampleRow). x.stamp) (row_is w m s (is_ready m f).long m.watch.taken h)))

  pub agrees : (c : Call) → call_refusal c (facts_in ops read (sizes m) c w) ≡ call_refusal c (facts_of ops c m)
  agrees (Arm rule) = rw (armed_same w m s, ← s.strip_taken) refl
  agrees Draw = rw (armed_same w m s, fits_same, full_same, sample_later, ← s.coming_is) refl
  agrees (Look p) = rw (armed_same w m s, fits_same, held_agrees w m s p, ← s.accepted_is) refl
  agrees Alarm = rw (armed_same w m s, fits_same) refl
  agrees Take =
      test_same _ _ _ _ _ _ (armed_same w m s) refl (λ _.
      test_same _ _ _ _ _ _ fits_same refl (λ f.
      test_same _ _ _ _ _ _ (ap₂ ltb (sym s.taken_is) (sym s.accepted_is)) refl (λ u.
      test_same _ _ _ _ _ _ (settled_same u) refl (λ _.
      test_same _ _ _ _ _ _ (ap (λ n. ltb n (length m.tray.rows)) (sym s.tray_kept)) refl (λ _.
      test_same _ _ _ _ _ _ (tray_later_same f u) refl (λ _. refl))))))
  agrees Pull = rw (← s.tray_kept) refl
