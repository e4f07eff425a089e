-- Memory that a watch was armed with, and memory not used yet, stand for what the model says. Assumes nothing.
use Rattle.std.proofs.Common.{◌≡◌, ℕ, ◌≤◌, true, ◌++◌, take, drop, None, sym, refl, ap, ◌∙◌, arith}
use Rattle.scale.specs.Laws.{Ops}
use Rattle.rule.specs.declared.rule.Rule.{Rule}
use Rattle.strip.specs.Ring.{contents, place_of, oldest}
use Rattle.world.proofs.Holding.{held_is, held_none}
use Rattle.world.specs.Steps.{accepted, answered, changed, held, held_count, rule_in}
use Rattle.world.specs.Tests.{call_refusal}
use Rattle.world.specs.World.{World, unused}
use Rattle.world.specs.declared.answer.Answer.{Answer}
use Rattle.world.specs.declared.call.Call.TheVariants.{Arm}
use Rattle.watch.specs.Calls.{Arms}
use Rattle.watch.specs.Memory.{Memory, facts_of, sizes}
use Rattle.watch.specs.Stands.{Stands, Unused}
use Rattle.watch.proofs.Passed.{arm_passed}

module _ {V : Type 0} (ops : Ops V) (read : ℕ → ℕ → V) where
  -- with no sample accepted nothing is held
  no_count : (w : World V) → accepted w ≡ 0 → held_count w ≡ 0
  no_count w e = let few = held_none (rule_in w) w.capture w.taken 0 e in omega arith

  no_held : (w : World V) → accepted w ≡ 0 → (p : ℕ) → held w p ≡ true → ⊥
  no_held w e p h = let l = (held_is (rule_in w) w.capture w.taken p h).0 in omega arith

  pub arm_stands : (rule : Rule) (m m' : Memory V) (a : Answer V) → call_refusal (Arm rule) (facts_of ops (Arm rule) m) ≡ None → Arms rule m m' a → (w : World V) → Stands ops read w m → (a ≡ answered ops read (Arm rule) w) × Stands ops read (changed ops read (sizes m) (Arm rule) w) m'
  arm_stands rule m m' a e does w s =
      let t = arm_passed ops m rule e in
      let none : accepted w ≡ 0 = sym s.strip_taken ∙ t.1 in
      let w' = changed ops read (sizes m) (Arm rule) w in
      let count : held_count w ≡ held_count w' = no_count w none ∙ sym (no_count w' none) in (
        does.says,
        record {
          armed_is = does.armed_is;
          accepted_is = does.accepted_stays ∙ s.accepted_is;
          taken_is = does.taken_stays ∙ s.taken_is;
          held_is = does.held_stays ∙ s.held_is ∙ count;
          strip_taken = ap (λ x. x.taken) does.strip_stays ∙ s.strip_taken;
          strip_kept = ap (λ x. x.kept) does.strip_stays ∙ s.strip_kept ∙ count;
          strip_last = λ some. absurd (omega arith);
          rows_are = λ p h. absurd (no_held w' none p h);
          cells_are = λ p h. absurd (no_held w' none p h);
          tray_is = ap contents does.tray_stays ∙ s.tray_is;
          tray_kept = ap (λ x. x.kept) does.tray_stays ∙ s.tray_kept;
          tray_taken = ap (λ x. x.taken) does.tray_stays ∙ s.tray_taken;
          tray_last = λ some. ap (λ x. x.last) does.tray_stays ∙ s.tray_last some;
          coming_is = does.coming_stays ∙ s.coming_is;
          rises = s.rises;
          samples_fit = s.samples_fit;
          taken_some = s.taken_some;
          readings_fit = s.readings_fit;
        },
      )

  pub unused_stands : (m : Memory V) → Unused m → m.strip.kept ≤ m.strip.taken → m.tray.kept ≤ m.tray.taken → Stands ops read (unused m.coming) m
  unused_stands m u strip-few tray-few =
      let w : World V = unused m.coming in
      let begun = m.watch.begun in
      let past = m.watch.past in
      let a = u.none_accepted in
      let b = u.strip_unused in
      let c = u.tray_unused in
      let none : m.tray.kept ≡ 0 = omega arith in
      let count = no_count w refl in
      record {
        armed_is = u.never_armed;
        accepted_is = a;
        taken_is = omega arith;
        held_is = omega arith;
        strip_taken = b;
        strip_kept = omega arith;
        strip_last = λ some. absurd (omega arith);
        rows_are = λ p h. absurd (no_held w refl p h);
        cells_are = λ p h. absurd (no_held w refl p h);
        tray_is = ap (λ n. take n (drop (place_of m.tray (oldest m.tray)) (m.tray.rows ++ m.tray.rows))) none;
        tray_kept = none;
        tray_taken = c;
        tray_last = λ some. absurd (omega arith);
        coming_is = refl;
        rises = λ x y l h. absurd (omega arith);
        samples_fit = λ j l. absurd (omega arith);
        taken_some = omega arith;
        readings_fit = tt;
      }
