-- Pull hands over the reading that the model says, and memory follows. Assumes nothing.
use Rattle.std.proofs.Common.{◌≡◌, ℕ, ◌-◌, ◌<◌, min, List, [], ◌∷◌, map, length, get_or, None, sym, ap, ◌∙◌, subst, arith}
use Rattle.std.proofs.lemmas.List.{append_assoc}
use Rattle.scale.specs.Laws.{Ops, Laws}
use Rattle.sample.specs.Limits.{stamp_limit}
use Rattle.strip.specs.Ring.{contents, without_oldest}
use Rattle.world.specs.Steps.{answered, changed}
use Rattle.world.specs.Tests.{call_refusal}
use Rattle.world.specs.World.{World}
use Rattle.world.specs.declared.answer.Answer.{Answer}
use Rattle.world.specs.declared.answer.Answer.TheVariants as answer
use Rattle.world.specs.declared.call.Call.TheVariants.{Pull}
use Rattle.world.specs.declared.reading.Reading.{Reading}
use Rattle.watch.specs.Calls.{Pulls}
use Rattle.watch.specs.Memory.{Memory, memory, facts_of, reading_of, row_of, sizes}
use Rattle.watch.specs.Stands.{Stands}
use Rattle.watch.proofs.Passed.{pull_passed}

module _ {V : Type 0} {ops : Ops V} (laws : Laws ops) (read : ℕ → ℕ → V) where
  -- a reading comes back from its row
  reading_back : (r : Reading V) → r.stamp < stamp_limit → reading_of ops (row_of ops r) ≡ r
  reading_back r early =
      let stamp : min r.stamp (stamp_limit - 1) ≡ r.stamp = omega arith in
      λ i. record { position = r.position; stamp = stamp i; value = laws.restores r.value i }

  abbrev with_tray : World V → List (Reading V) → World V
  with_tray w tray = record { armed = w.armed; capture = w.capture; taken = w.taken; pulled = w.pulled; tray = tray; coming = w.coming }

  pub pull_stands : (m m' : Memory V) (a : Answer V) → call_refusal Pull (facts_of ops Pull m) ≡ None → Pulls ops m m' a → (w : World V) → Stands ops read w m → (a ≡ answered ops read Pull w) × Stands ops read (changed ops read (sizes m) Pull w) m'
  pull_stands m m' a e does w s = by w.tray s
    where
      after : Memory V
      after = memory m.watch m.strip m.cells (without_oldest m.tray) m.coming

      is_after : after ≡ m'
      is_after = λ i. memory (sym does.watch_stays i) (sym does.strip_stays i) (sym does.cells_stay i) (sym does.tray_is i) (sym does.coming_stays i)

      by : (tray : List (Reading V)) → Stands ops read (with_tray w tray) m → (a ≡ answered ops read Pull (with_tray w tray)) × Stands ops read (changed ops read (sizes m) Pull (with_tray w tray)) m'
      by [] s = absurd (let some = pull_passed ops m e in let none = s.tray_kept in omega arith)
      by (r ∷ rs) s =
          let both = does.first_was in
          let is = s.tray_is in
          let first : does.row ≡ row_of ops r = cc in
          let others : contents m'.tray ≡ map (row_of ops) rs = cc in
          let join = sym (append_assoc w.pulled (r ∷ []) rs) in
          let pulls : Reading V → Answer V = λ x. answer.Pulled x in
          let now : Stands ops read (changed ops read (sizes m) Pull (with_tray w (r ∷ rs))) after = record {
            armed_is = s.armed_is;
            accepted_is = s.accepted_is;
            taken_is = s.taken_is;
            held_is = s.held_is;
            strip_taken = s.strip_taken;
            strip_kept = s.strip_kept;
            strip_last = s.strip_last;
            rows_are = s.rows_are;
            cells_are = s.cells_are;
            tray_is = ap contents (sym does.tray_is) ∙ others;
            tray_kept = let k = s.tray_kept in omega arith;
            tray_taken = s.tray_taken ∙ ap length join;
            tray_last = subst (λ l. 0 < length l → m.tray.last ≡ get_or (map (λ (x : Reading V). x.stamp) l) (length l - 1) 0) join s.tray_last;
            coming_is = s.coming_is;
            rises = s.rises;
            samples_fit = s.samples_fit;
            taken_some = s.taken_some;
            readings_fit = s.readings_fit.1;
          } in (
            does.says ∙ ap pulls (ap (reading_of ops) first ∙ reading_back r s.readings_fit.0),
            subst (Stands ops read (changed ops read (sizes m) Pull (with_tray w (r ∷ rs)))) is_after now,
          )
