-- What each call promises of memory, whatever lies there. Assumes nothing.
use Rattle.std.specs.Prelude.{◌≡◌, ℕ, ◌+◌, ◌-◌, ◌≤◌, List, [], ◌∷◌, ◌++◌, length, Some, None, Ok, Err, Option, Result, slice_index_or}
use Rattle.refusal.specs.declared.Refusal.{Refusal}
use Rattle.scale.specs.Laws.{Ops}
use Rattle.logic.specs.Formula.{span}
use Rattle.logic.specs.Trace.{blank}
use Rattle.rule.specs.declared.rule.Rule.{Rule}
use Rattle.sample.specs.Coming.{rest}
use Rattle.sample.specs.declared.row.SampleRow.{SampleRow}
use Rattle.strip.specs.Ring.{with_row, with_newest, without_oldest, contents}
use Rattle.strip.specs.declared.reading.ReadingRow.{ReadingRow}
use Rattle.evaluation.specs.Memory.{row_at}
use Rattle.world.specs.Tests.{call_refusal, watch_refuses}
use Rattle.world.specs.declared.answer.Answer.{Answer}
use Rattle.world.specs.declared.answer.Answer.TheVariants as answer
use Rattle.world.specs.declared.answer.Drawn.{Drawn}
use Rattle.world.specs.declared.answer.Shown.{Shown}
use Rattle.world.specs.declared.call.Call.{Call}
use Rattle.world.specs.declared.call.Call.TheVariants.{Arm, Draw, Look, Alarm, Take, Pull}
use Rattle.world.specs.declared.reading.Reading.{Reading}
use Rattle.world.specs.declared.refused.Refused.{Refused}
use Rattle.watch.specs.Cells.{FirstLater, fails, lowest}
use Rattle.watch.specs.Memory.{Memory, armed_of, formula_of, facts_of, sizes, last_cell, oldest_held, reading_of}
use Rattle.watch.specs.Stands.{Follows}
use Rattle.watch.specs.declared.watch.Watch.{Watch}

-- the answers of the calls as answers of one kind: a refusal is the watch's, but for a draw, which says whose it is
module _ {V : Type 0} where
  abbrev pub arm_said : Result (Unit {0}) Refusal → Answer V
  arm_said (Ok _) = answer.Armed
  arm_said (Err why) = answer.Refused (watch_refuses why)

  abbrev pub draw_said : Result Drawn Refused → Answer V
  draw_said (Ok drawn) = answer.Drew drawn
  draw_said (Err why) = answer.Refused why

  abbrev pub look_said : Result (Shown V) Refusal → Answer V
  look_said (Ok shown) = answer.Showed shown
  look_said (Err why) = answer.Refused (watch_refuses why)

  abbrev pub alarm_said : Result (Option (ℕ × ℕ)) Refusal → Answer V
  alarm_said (Ok named) = answer.Alarmed named
  alarm_said (Err why) = answer.Refused (watch_refuses why)

  abbrev pub take_said : Result ℕ Refusal → Answer V
  take_said (Ok position) = answer.Took position
  take_said (Err why) = answer.Refused (watch_refuses why)

  abbrev pub pull_said : Result (Reading V) Refusal → Answer V
  pull_said (Ok reading) = answer.Pulled reading
  pull_said (Err why) = answer.Refused (watch_refuses why)

module _ {V : Type 0} where
  -- a call keeps what the watch is armed with
  abbrev pub SameRule : Watch V → Watch V → Type 0
  SameRule x x' = x'.arming ≡ x.arming

  -- an armed watch has the rule and C; its memory stays
  pub record Arms (rule : Rule) (m m' : Memory V) (a : Answer V) : Type 0 where
    pub says : a ≡ answer.Armed
    pub armed_is : armed_of m'.watch ≡ Some (record { rule = rule; places = length m.strip.rows })
    pub accepted_stays : m'.watch.accepted ≡ m.watch.accepted
    pub taken_stays : m'.watch.taken ≡ m.watch.taken
    pub held_stays : m'.watch.held ≡ m.watch.held
    pub strip_stays : m'.strip ≡ m.strip
    pub cells_stay : m'.cells ≡ m.cells
    pub tray_stays : m'.tray ≡ m.tray
    pub coming_stays : m'.coming ≡ m.coming

  -- a drawn sample is the strip's newest, and gone from the source; positions leave the strip from the oldest on, up to the first that
  -- is untaken or whose stamp plus the span is after the newest, by the stamps in the rows
  pub record Draws (m m' : Memory V) (a : Answer V) : Type 0 where
    -- free where memory stands for no world, as what lies in the cells is: how many positions the sample settled, at most all untaken ones
    pub count : ℕ
    pub count_few : count ≤ m.watch.accepted + 1 - m.watch.taken
    pub says : a ≡ answer.Drew (record { position = m.watch.accepted; settled = count })
    pub same_rule : SameRule m.watch m'.watch
    pub accepted_more : m'.watch.accepted ≡ m.watch.accepted + 1
    pub taken_stays : m'.watch.taken ≡ m.watch.taken
    pub lets_go :
        FirstLater m'.strip.rows (oldest_held m.watch) m.watch.taken m'.strip.last (span (formula_of m.watch)) (oldest_held m'.watch)
    pub strip_is :
        m'.strip
        ≡ with_newest (with_row m.strip (slice_index_or m.coming.samples 0 blank).stamp (slice_index_or m.coming.samples 0 blank)) m'.watch.held
    pub cells_long : length m'.cells ≡ length m.cells
    pub tray_stays : m'.tray ≡ m.tray
    pub coming_is : m'.coming ≡ rest m.coming

module _ {V : Type 0} (ops : Ops V) where
  -- look answers the restored ends of the position's cell
  abbrev pub Looks : ℕ → Memory V → Answer V → Type 0
  Looks p m a =
      a ≡ answer.Showed (record {
        low = ops.restored (last_cell m.watch m.cells p).low;
        high = ops.restored (last_cell m.watch m.cells p).high;
      })

  abbrev pub with_row_stamp : List SampleRow → Option ℕ → Option (ℕ × ℕ)
  with_row_stamp rows None = None
  with_row_stamp rows (Some p) = Some (p, (row_at rows p).stamp)

  -- alarm answers the lowest untaken position whose restored high end does not pass, with the stamp in its row
  abbrev pub Alarms : Memory V → Answer V → Type 0
  Alarms m a =
      a ≡ answer.Alarmed (with_row_stamp m.strip.rows
      (lowest (λ p. fails ops (last_cell m.watch m.cells p)) m.watch.taken (m.watch.accepted - m.watch.taken)))

  -- the row that take puts on the tray
  abbrev pub taken_row : Memory V → ReadingRow
  taken_row m = record {
    position = m.watch.taken;
    stamp = (row_at m.strip.rows m.watch.taken).stamp;
    value = ops.kept (ops.restored (last_cell m.watch m.cells m.watch.taken).low);
  }

  -- the oldest untaken position goes on the tray; positions leave the strip as in a draw
  pub record Takes (m m' : Memory V) (a : Answer V) : Type 0 where
    pub says : a ≡ answer.Took m.watch.taken
    pub same_rule : SameRule m.watch m'.watch
    pub accepted_stays : m'.watch.accepted ≡ m.watch.accepted
    pub taken_more : m'.watch.taken ≡ m.watch.taken + 1
    pub lets_go :
        FirstLater m.strip.rows (oldest_held m.watch) (m.watch.taken + 1) m.strip.last (span (formula_of m.watch)) (oldest_held m'.watch)
    pub strip_is : m'.strip ≡ with_newest m.strip m'.watch.held
    pub cells_stay : m'.cells ≡ m.cells
    pub tray_is : m'.tray ≡ with_row m.tray (taken_row m).stamp (taken_row m)
    pub tray_more : contents m'.tray ≡ contents m.tray ++ taken_row m ∷ []
    pub coming_stays : m'.coming ≡ m.coming

  -- the tray's oldest reading goes, and is the answer
  pub record Pulls (m m' : Memory V) (a : Answer V) : Type 0 where
    pub row : ReadingRow
    pub says : a ≡ answer.Pulled (reading_of ops row)
    pub first_was : contents m.tray ≡ row ∷ contents m'.tray
    pub tray_is : m'.tray ≡ without_oldest m.tray
    pub watch_stays : m'.watch ≡ m.watch
    pub strip_stays : m'.strip ≡ m.strip
    pub cells_stay : m'.cells ≡ m.cells
    pub coming_stays : m'.coming ≡ m.coming

module _ {V : Type 0} (ops : Ops V) where
  -- what an accepted call does to memory, and answers
  abbrev pub Accepted : Call → Memory V → Memory V → Answer V → Type 0
  Accepted (Arm rule) m m' a = Arms rule m m' a
  Accepted Draw m m' a = Draws m m' a
  Accepted (Look p) m m' a = Looks ops p m a × (m' ≡ m)
  Accepted Alarm m m' a = Alarms ops m a × (m' ≡ m)
  Accepted Take m m' a = Takes ops m m' a
  Accepted Pull m m' a = Pulls ops m m' a

-- what every call promises. Whatever lies in memory: it is refused by the first of its tests that fails, and then changes nothing;
-- else it does what an accepted call does. No length changes. And for every world that the memory stands for: the answer is the model's
-- there, and the memory then stands for the world after the call.
pub record Promise {V : Type 0} (ops : Ops V) (read : ℕ → ℕ → V) (c : Call) (m m' : Memory V) (a : Answer V) : Type 0 where
  pub refused : (why : Refused) → call_refusal c (facts_of ops c m) ≡ Some why → (a ≡ answer.Refused why) × (m' ≡ m)
  pub accepted : call_refusal c (facts_of ops c m) ≡ None → Accepted ops c m m' a
  pub lengths : sizes m' ≡ sizes m
  pub standing : Follows ops read c m m' a
