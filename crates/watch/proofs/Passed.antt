-- What an accepted call's tests said. Assumes nothing.
use Rattle.std.proofs.Common.{◌≡◌, ℕ, ◌<◌, true, false, ◌&&◌, ltb, leb, length, get_or, is_some, Some, None, Option, refl, arith}
use Rattle.std.specs.Option.{option_map}
use Rattle.std.proofs.lemmas.Bool.{and_parts}
use Rattle.std.proofs.lemmas.Bool.Decides.{nat_tests}
use Rattle.std.proofs.lemmas.Grind.{common_steps}
use Rattle.scale.specs.Laws.{Ops}
use Rattle.logic.specs.Trace.{blank}
use Rattle.rule.specs.declared.rule.Rule.{Rule}
use Rattle.evaluation.specs.Memory.{row_at}
use Rattle.world.specs.Steps.{fits_armed, places_armed}
use Rattle.world.specs.World.{Armed, Sizes}
use Rattle.world.specs.Tests.{call_refusal}
use Rattle.world.specs.declared.call.Call.TheVariants.{Arm, Draw, Look, Alarm, Take, Pull}
use Rattle.watch.specs.Cells.{same_ends}
use Rattle.watch.specs.Memory.{Memory, armed_of, facts_of, last_cell, places_of, stored, takes_later, watch_fits, oldest_held}
use Rattle.watch.specs.declared.armed.Arming.{Arming}

-- memory that fits has as many places as were armed
lengths_armed : (o : Option Armed) (s : Sizes) → fits_armed o s ≡ true → s.places ≡ places_armed o
lengths_armed None s e = grind arith
lengths_armed (Some a) s e = grind (arith, nat_tests)

-- and only what was armed has memory that fits
fits_some : (o : Option Arming) (s : Sizes) → fits_armed (option_map stored o) s ≡ true → is_some o ≡ true
fits_some None s e = grind arith
fits_some (Some a) s e = refl

module _ {V : Type 0} (m : Memory V) where
  -- the watch is armed and the memory fits
  pub record Ready : Type 0 where
    pub armed_is : is_some m.watch.arming ≡ true
    pub long : length m.strip.rows ≡ places_of m.watch
    pub taken_same : m.strip.taken ≡ m.watch.accepted
    pub kept_same : m.strip.kept ≡ m.watch.held

  pub is_ready : watch_fits m.watch m.strip (length m.cells) ≡ true → Ready
  is_ready f = record {
    armed_is = fits_some m.watch.arming _ (and_parts _ _ f).0;
    long = lengths_armed (armed_of m.watch) _ (and_parts _ _ f).0;
    taken_same = grind (arith, nat_tests);
    kept_same = grind (arith, nat_tests);
  }

module _ {V : Type 0} (ops : Ops V) (m : Memory V) where
  -- the watch is not armed, and the strip never took a record
  pub arm_passed : (rule : Rule) → call_refusal (Arm rule) (facts_of ops (Arm rule) m) ≡ None → (is_some m.watch.arming ≡ false) × (m.strip.taken ≡ 0)
  arm_passed rule e = (grind (arith, common_steps), grind (arith, nat_tests))

  pub record DrawPassed : Type 0 where
    pub ready : Ready m
    pub not_full : m.watch.held ≡ places_of m.watch → ⊥
    pub some_coming : 0 < length m.coming.samples
    pub strip_later : takes_later m.strip (get_or m.coming.samples 0 blank).stamp ≡ true

  pub draw_passed : call_refusal Draw (facts_of ops Draw m) ≡ None → DrawPassed
  draw_passed e = record {
    ready = is_ready m (grind (arith, common_steps));
    not_full = λ full. grind (arith, nat_tests);
    some_coming = grind (arith, nat_tests);
    strip_later = grind (arith, nat_tests);
  }

  pub look_passed : (p : ℕ) → call_refusal (Look p) (facts_of ops (Look p) m) ≡ None → Ready m × ((ltb p m.watch.accepted && leb (oldest_held m.watch) p) ≡ true)
  look_passed p e = (is_ready m (grind (arith, common_steps)), grind (arith, common_steps))

  pub alarm_passed : call_refusal Alarm (facts_of ops Alarm m) ≡ None → Ready m
  alarm_passed e = is_ready m (grind (arith, common_steps))

  pub record TakePassed : Type 0 where
    pub ready : Ready m
    pub untaken : m.watch.taken < m.watch.accepted
    pub settled : same_ends ops (last_cell m.watch m.cells m.watch.taken) ≡ true
    pub tray_free : m.tray.kept < length m.tray.rows
    pub tray_later : takes_later m.tray (row_at m.strip.rows m.watch.taken).stamp ≡ true

  pub take_passed : call_refusal Take (facts_of ops Take m) ≡ None → TakePassed
  take_passed e = record {
    ready = is_ready m (grind (arith, common_steps));
    untaken = grind (arith, nat_tests);
    settled = grind (arith, common_steps);
    tray_free = grind (arith, nat_tests);
    tray_later = grind (arith, nat_tests);
  }

  pub pull_passed : call_refusal Pull (facts_of ops Pull m) ≡ None → 0 < m.tray.kept
  pull_passed e = grind (arith, nat_tests)
