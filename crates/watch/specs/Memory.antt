-- What lies in memory, and what the tests of each call find there. Assumes nothing.
use Rattle.std.specs.Prelude.{ℕ, ◌-◌, min, Bool, ◌&&◌, ◌||◌, List, length, is_some, Some, None, Option, ◌==◌, nat_le, nat_lt, slice_index_or}
use Rattle.std.specs.Option.{option_map}
use Rattle.scale.specs.Laws.{Ops}
use Rattle.logic.specs.Formula.{Formula}
use Rattle.logic.specs.Trace.{blank}
use Rattle.rule.specs.Made.{nodes_of}
use Rattle.rule.specs.declared.rule.Rule.{Rule}
use Rattle.sample.specs.Coming.{Coming}
use Rattle.sample.specs.Limits.{stamp_limit}
use Rattle.sample.specs.declared.row.SampleRow.{SampleRow}
use Rattle.strip.specs.Ring.{Ring}
use Rattle.strip.specs.declared.reading.ReadingRow.{ReadingRow}
use Rattle.evaluation.specs.Memory.{row_at, cell_at}
use Rattle.evaluation.specs.declared.memory.Cell.{Cell}
use Rattle.world.specs.Steps.{position_of, formula_armed, places_armed, fits_armed}
use Rattle.world.specs.Tests.{Facts, arm_fits}
use Rattle.world.specs.World.{Sizes, Armed}
use Rattle.world.specs.declared.call.Call.{Call}
use Rattle.world.specs.declared.call.Call.TheVariants.{Arm, Draw, Look, Alarm, Take, Pull}
use Rattle.world.specs.declared.reading.Reading.{Reading}
use Rattle.watch.specs.Cells.{same_ends}
use Rattle.watch.specs.declared.armed.Arming.{Arming}
use Rattle.watch.specs.declared.watch.Watch.{Watch}

-- the watch's own numbers, the strip, the cells, the tray, and what the source means
pub record Memory (V : Type 0) : Type 0 where
  pub watch : Watch V
  pub strip : Ring SampleRow
  pub cells : List Cell
  pub tray : Ring ReadingRow
  pub coming : Coming

abbrev pub memory : {V : Type 0} → Watch V → Ring SampleRow → List Cell → Ring ReadingRow → Coming → Memory V
memory watch strip cells tray coming = record { watch = watch; strip = strip; cells = cells; tray = tray; coming = coming }

abbrev pub last_node : Rule → ℕ
last_node rule = length (nodes_of rule) - 1

abbrev pub last_armed : Option Armed → ℕ
last_armed None = 0
last_armed (Some a) = last_node a.rule

-- what an arming stores
abbrev pub stored : Arming → Armed
stored a = record { rule = a.rule; places = a.places }

module _ {V : Type 0} where
  abbrev pub armed_of : Watch V → Option Armed
  armed_of x = option_map stored x.arming

  abbrev pub formula_of : Watch V → Formula
  formula_of x = formula_armed (armed_of x)

  abbrev pub places_of : Watch V → ℕ
  places_of x = places_armed (armed_of x)

  abbrev pub sizes : Memory V → Sizes
  sizes m = record { places = length m.strip.rows; cells = length m.cells; tray_places = length m.tray.rows }

  -- the oldest position that is held
  abbrev pub oldest_held : Watch V → ℕ
  oldest_held x = x.accepted - x.held

  -- the last node's cell of a position
  abbrev pub last_cell : Watch V → List Cell → ℕ → Cell
  last_cell x cells p = cell_at cells (places_of x) (last_armed (armed_of x)) p

  -- strip and cells have the lengths of arming, and the strip has counted as many records, in all and now, as the watch has positions,
  -- accepted and held
  abbrev pub watch_fits : Watch V → Ring SampleRow → ℕ → Bool
  watch_fits x strip cells =
      fits_armed (armed_of x) (record { places = length strip.rows; cells = cells; tray_places = 0 })
      && (strip.taken == x.accepted && strip.kept == x.held)

  abbrev pub memory_fits : Call → Memory V → Bool
  memory_fits (Arm rule) m = arm_fits rule (sizes m) m.strip.taken
  memory_fits Draw m = watch_fits m.watch m.strip (length m.cells)
  memory_fits (Look p) m = watch_fits m.watch m.strip (length m.cells)
  memory_fits Alarm m = watch_fits m.watch m.strip (length m.cells)
  memory_fits Take m = watch_fits m.watch m.strip (length m.cells)
  memory_fits Pull m = watch_fits m.watch m.strip (length m.cells)

-- whether a ring takes a stamp as later
abbrev pub takes_later : {R : Type 0} → Ring R → ℕ → Bool
takes_later ring stamp = ring.taken == 0 || nat_lt ring.last stamp

module _ {V : Type 0} (ops : Ops V) where
  abbrev pub facts_of : Call → Memory V → Facts
  facts_of c m = record {
    armed = is_some m.watch.arming;
    fits = memory_fits c m;
    full = (m.watch.held == places_of m.watch);
    coming = m.coming;
    later = takes_later m.strip (slice_index_or m.coming.samples 0 blank).stamp;
    seen = nat_lt (position_of c) m.watch.accepted;
    held = nat_lt (position_of c) m.watch.accepted && nat_le (oldest_held m.watch) (position_of c);
    untaken = nat_lt m.watch.taken m.watch.accepted;
    settled = same_ends ops (last_cell m.watch m.cells m.watch.taken);
    tray_free = nat_lt m.tray.kept (length m.tray.rows);
    tray_later = takes_later m.tray (row_at m.strip.rows m.watch.taken).stamp;
    tray_some = nat_lt 0 m.tray.kept;
  }

  -- the row of a reading in the tray, and the reading of any row
  abbrev pub row_of : Reading V → ReadingRow
  row_of r = record { position = r.position; stamp = r.stamp; value = ops.kept r.value }

  abbrev pub reading_of : ReadingRow → Reading V
  reading_of row = record { position = row.position; stamp = min row.stamp (stamp_limit - 1); value = ops.restored row.value }
