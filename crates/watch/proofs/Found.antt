-- What memory that stands for a world has in it. Assumes nothing.
use Rattle.std.proofs.Common.{◌≡◌, ℕ, ◌%◌, ◌<◌, ◌≤◌, true, false, ◌&&◌, ltb, leb, length, get_or, is_some, Some, None, sym, refl, ap, ◌∙◌, inl, arith}
use Rattle.std.specs.Option.{option_map}
use Rattle.std.proofs.lemmas.Bool.{and_from, and_right, le-leb, lt-leb, lt-ltb}
use Rattle.std.proofs.lemmas.Bool.Decides.{nat_tests}
use Rattle.scale.specs.Laws.{Ops}
use Rattle.logic.specs.Trace.{blank}
use Rattle.sample.proofs.Within.{row_stays}
use Rattle.sample.specs.Rows.{clamped}
use Rattle.evaluation.specs.Memory.{cell_at, row_at, kept_ends}
use Rattle.world.proofs.Holding.{held_is, held_on, is_held}
use Rattle.world.specs.Steps.{accepted, held, held_of, places_in, places_armed, rule_in, shown}
use Rattle.world.specs.World.{World}
use Rattle.watch.specs.Calls.{SameRule}
use Rattle.watch.specs.Memory.{Memory, armed_of, last_armed, last_cell, oldest_held, places_of, stored}
use Rattle.watch.specs.Stands.{Stands}
use Rattle.watch.specs.declared.armed.Arming.{Arming}
use Rattle.watch.specs.declared.watch.Watch.{Watch}
use Rattle.watch.proofs.Suffix.{suffix}

module _ {V : Type 0} where
  pub same_armed : (x x' : Watch V) → SameRule x x' → armed_of x' ≡ armed_of x
  same_armed x x' s = ap (option_map stored) s

module _ {V : Type 0} {ops : Ops V} {read : ℕ → ℕ → V} (w : World V) (m : Memory V) (s : Stands ops read w m) where
  pub armed_same : is_some w.armed ≡ is_some m.watch.arming
  armed_same = ap is_some (sym s.armed_is) ∙ elim m.watch.arming as (λ o. is_some (option_map stored o) ≡ is_some o) [ Some a ↦ refl | None ↦ refl ]

  pub armed_with : (arming : Arming) → m.watch.arming ≡ Some arming → w.armed ≡ Some (stored arming)
  armed_with arming e = sym s.armed_is ∙ ap (option_map stored) e

  -- the positions that memory holds are those that the model holds
  pub held_agrees : (p : ℕ) → held w p ≡ (ltb p m.watch.accepted && leb (oldest_held m.watch) p)
  unfolding held_of
  held_agrees p = rw (s.accepted_is, s.held_is) (grind (arith, nat_tests, suffix (held w) (accepted w) (λ i j h a b. held_on (rule_in w) w.capture w.taken i j s.rises h a b) p))

  -- from the oldest held position on all are held, and none before it
  pub from_oldest : (p : ℕ) → oldest_held m.watch ≤ p → p < m.watch.accepted → held w p ≡ true
  from_oldest p a b = held_agrees p ∙ and_from _ _ (lt-ltb p m.watch.accepted b) (le-leb (oldest_held m.watch) p a)

  pub below_oldest : (p : ℕ) → p < oldest_held m.watch → held w p ≡ false
  below_oldest p a = held_agrees p ∙ and_right _ _ (lt-leb (oldest_held m.watch) p a)

  -- an untaken position is held
  pub untaken_held : (p : ℕ) → m.watch.taken ≤ p → p < m.watch.accepted → held w p ≡ true
  untaken_held p a b =
      let t = s.taken_is in
      let n = s.accepted_is in
      is_held (rule_in w) w.capture w.taken p (omega arith) (inl (omega arith))

  pub cell_is : (p : ℕ) → held w p ≡ true → last_cell m.watch m.cells p ≡ kept_ends ops (shown ops read (rule_in w) w.capture p)
  cell_is p h = ap (λ o. cell_at m.cells (places_armed o) (last_armed o) p) s.armed_is ∙ s.cells_are p h

  pub row_is : length m.strip.rows ≡ places_of m.watch → (p : ℕ) → held w p ≡ true → row_at m.strip.rows p ≡ get_or w.capture p blank
  row_is long p h =
      let places : places_in w ≡ length m.strip.rows = sym (long ∙ ap places_armed s.armed_is) in
      let there : get_or m.strip.rows (p % length m.strip.rows) blank ≡ get_or w.capture p blank = rw places at (s.rows_are p h) in
      ap clamped there ∙ row_stays (get_or w.capture p blank) (s.samples_fit p (held_is (rule_in w) w.capture w.taken p h).0)
