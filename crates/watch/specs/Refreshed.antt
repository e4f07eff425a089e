-- What the inner steps of draw and take promise. Assumes nothing.
use Rattle.std.specs.Prelude.{◌≡◌, ℕ, ◌+◌, ◌-◌, ◌<◌, max, Bool, true, List, length, Option}
use Rattle.scale.specs.Laws.{Ops}
use Rattle.logic.specs.Formula.{wait, span}
use Rattle.rule.specs.Made.{nodes_of}
use Rattle.rule.specs.declared.rule.Rule.{Rule}
use Rattle.sample.specs.Coming.{Coming}
use Rattle.sample.specs.declared.row.SampleRow.{SampleRow}
use Rattle.strip.specs.Ring.{Ring, with_row, with_newest}
use Rattle.evaluation.specs.Memory.{cell_at}
use Rattle.evaluation.specs.Nodes.{Evaluated}
use Rattle.evaluation.specs.declared.memory.Cell.{Cell}
use Rattle.world.specs.Steps.{many}
use Rattle.world.specs.Tests.{call_refusal, rule_formula}
use Rattle.world.specs.declared.call.Call.TheVariants.{Draw}
use Rattle.watch.specs.Cells.{FirstLater, same_ends}
use Rattle.world.specs.declared.refused.Refused.{Refused}
use Rattle.watch.specs.Calls.{SameRule}
use Rattle.watch.specs.Memory.{last_node, last_cell, oldest_held, takes_later}
use Rattle.watch.specs.declared.armed.Arming.{Arming}
use Rattle.watch.specs.declared.watch.Watch.{Watch}

-- how many of c positions from j on are settled, by the last node's cells
abbrev pub settled_among : {V : Type 0} → Ops V → Rule → ℕ → List Cell → ℕ → ℕ → ℕ
settled_among ops rule places cells j c = many (λ k. same_ends ops (cell_at cells places (last_node rule) (j + k))) c

pub record Refreshed {V : Type 0} (ops : Ops V) (read : ℕ → ℕ → V) (rule : Rule) (rows : List SampleRow) (oldest accepted taken newest : ℕ) (ys xs : List Cell) (r : ℕ) : Type 0 where
  pub first : ℕ
  pub from : ℕ
  pub window : FirstLater rows oldest accepted newest (span (rule_formula rule)) first
  pub waiting : FirstLater rows first accepted newest (wait (rule_formula rule)) from
  pub evaluated : Evaluated ops read rows first (accepted + 1 - first) (from - first) (nodes_of rule) ys xs
  pub count_is :
      r
      ≡ settled_among ops rule (length rows) xs (max from taken) (accepted + 1 - max from taken)
      - settled_among ops rule (length rows) ys (max from taken) (accepted - max from taken)

-- why no sample comes into a watch, full or not, if none does: by the tests of a draw of which all others hold
abbrev pub sample_refusal : Bool → Coming → Option Refused
sample_refusal full coming =
    call_refusal Draw (record {
      armed = true;
      fits = true;
      full = full;
      coming = coming;
      later = true;
      seen = true;
      held = true;
      untaken = true;
      settled = true;
      tray_free = true;
      tray_later = true;
      tray_some = true;
    })

-- a sample with this row was taken in, and the rule evaluated anew
pub record Accepting {V : Type 0} (ops : Ops V) (read : ℕ → ℕ → V) (x : Watch V) (arming : Arming) (strip strip' : Ring SampleRow) (cells cells' : List Cell) (row : SampleRow) (settled : ℕ) : Type 0 where
  pub later : takes_later strip row.stamp ≡ true
  pub strip_is : strip' ≡ with_row strip row.stamp row
  pub cells_long : length cells' ≡ length cells
  pub refreshed : Refreshed ops read arming.rule strip'.rows (oldest_held x) x.accepted x.taken strip.last cells cells' settled

-- positions were let go, from the oldest held on
pub record LetGo {V : Type 0} (x x' : Watch V) (strip strip' : Ring SampleRow) (span : ℕ) : Type 0 where
  pub same_rule : SameRule x x'
  pub accepted_stays : x'.accepted ≡ x.accepted
  pub taken_stays : x'.taken ≡ x.taken
  pub lets_go : FirstLater strip.rows (oldest_held x) x.taken strip.last span (oldest_held x')
  pub strip_is : strip' ≡ with_newest strip x'.held

-- nothing but the tray can refuse a take of an armed watch whose memory fits
pub record Takable {V : Type 0} (ops : Ops V) (x : Watch V) (cells : List Cell) : Type 0 where
  pub untaken : x.taken < x.accepted
  pub settled : same_ends ops (last_cell x cells x.taken) ≡ true
