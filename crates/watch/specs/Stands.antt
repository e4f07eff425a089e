-- Which worlds, states of the model, memory stands for, and what a call must keep of that. Assumes nothing.
use Rattle.std.specs.Prelude.{◌≡◌, ℕ, ◌-◌, ◌%◌, ◌<◌, ◌≤◌, true, ◌++◌, map, length, None, slice_index, slice_index_or}
use Rattle.std.specs.List.{AllByRecursion}
use Rattle.scale.specs.Laws.{Ops}
use Rattle.logic.specs.Trace.{blank, trace, newest, Rising}
use Rattle.sample.specs.Limits.{stamp_limit}
use Rattle.sample.specs.Rows.{Fits}
use Rattle.strip.specs.Ring.{contents}
use Rattle.evaluation.specs.Memory.{cell_at, kept_ends}
use Rattle.world.specs.Steps.{rule_in, accepted, places_in, held, held_count, reading_stamps, shown, step}
use Rattle.world.specs.World.{World}
use Rattle.world.specs.declared.answer.Answer.{Answer}
use Rattle.world.specs.declared.call.Call.{Call}
use Rattle.world.specs.declared.reading.Reading.{Reading}
pub use Rattle.watch.specs.Memory.{last_armed}
use Rattle.watch.specs.Memory.{Memory, armed_of, sizes, row_of}

-- the abstraction relation: memory m represents the state w
pub record Stands {V : Type 0} (ops : Ops V) (read : ℕ → ℕ → V) (w : World V) (m : Memory V) : Type 0 where
  -- the watch's numbers
  pub armed_is : armed_of m.watch ≡ w.armed
  pub accepted_is : m.watch.accepted ≡ accepted w
  pub taken_is : m.watch.taken ≡ w.taken
  pub held_is : m.watch.held ≡ held_count w
  -- the strip: its counts, its last stamp, and at each held position the sample
  pub strip_taken : m.strip.taken ≡ accepted w
  pub strip_kept : m.strip.kept ≡ held_count w
  pub strip_last : 0 < accepted w → m.strip.last ≡ newest (trace w.capture)
  pub rows_are : (p : ℕ) → held w p ≡ true → slice_index_or m.strip.rows (p % places_in w) blank ≡ slice_index_or w.capture p blank
  -- the last node's cell at each held position: its two ends
  pub cells_are : (p : ℕ) → held w p ≡ true → cell_at m.cells (places_in w) (last_armed w.armed) p ≡ kept_ends ops (shown ops read (rule_in w) w.capture p)
  -- the tray: its readings in order, how many it keeps and ever took, and the last stamp
  pub tray_is : contents m.tray ≡ map (row_of ops) w.tray
  pub tray_kept : m.tray.kept ≡ length w.tray
  pub tray_taken : m.tray.taken ≡ length (w.pulled ++ w.tray)
  pub tray_last : 0 < length (w.pulled ++ w.tray) → m.tray.last ≡ slice_index (reading_stamps w) (length (w.pulled ++ w.tray) - 1)
  -- the source
  pub coming_is : m.coming ≡ w.coming
  -- what a lawful owner has: samples in range with rising stamps, no more taken than accepted, readings with stamps below the limit
  pub rises : Rising (trace w.capture)
  pub samples_fit : (j : ℕ) → j < accepted w → Fits (slice_index_or w.capture j blank)
  pub taken_some : w.taken ≤ accepted w
  pub readings_fit : AllByRecursion (λ (r : Reading V). r.stamp < stamp_limit) w.tray

-- nothing was armed and no record taken; the memory may have anything in it. That nothing was accepted is part of what a new watch is,
-- since only an armed one changes that
pub record Unused {V : Type 0} (m : Memory V) : Type 0 where
  pub never_armed : armed_of m.watch ≡ None
  pub none_accepted : m.watch.accepted ≡ 0
  pub strip_unused : m.strip.taken ≡ 0
  pub tray_unused : m.tray.taken ≡ 0

module _ {V : Type 0} (ops : Ops V) (read : ℕ → ℕ → V) where
  -- whatever world the memory stands for, the answer is the model's there, and the memory then stands for the world after the call
  abbrev pub Follows : Call → Memory V → Memory V → Answer V → Type 0
  Follows c m m' a =
      (w : World V) →
      Stands ops read w m →
      (a ≡ (step ops read (sizes m) c w).1) × Stands ops read (step ops read (sizes m) c w).0 m'
