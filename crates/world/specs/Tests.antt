-- The tests of each call, in their order, each with its refusal. Calls on memory and calls in the model are refused by this one table.
-- Assumes nothing.
use Rattle.std.specs.Prelude.{ℕ, ◌*◌, Bool, cond, not, ◌&&◌, List, [], ◌∷◌, length, Some, None, Option, ◌==◌, nat_le, nat_lt}
use Rattle.refusal.specs.declared.Refusal.{Refusal}
use Rattle.refusal.specs.declared.Refusal.TheVariants as refusal
use Rattle.logic.specs.Formula.{Formula, span}
use Rattle.rule.specs.Made.{nodes_of}
use Rattle.rule.specs.Tables.{formula}
use Rattle.rule.specs.declared.rule.Rule.{Rule}
use Rattle.sample.specs.Coming.{Coming}
use Rattle.sample.specs.Endings.{refusal_of}
use Rattle.sample.specs.declared.ending.Ending.{Ending}
use Rattle.world.specs.Limits.{most_places}
use Rattle.world.specs.World.{Sizes}
use Rattle.world.specs.declared.call.Call.{Call}
use Rattle.world.specs.declared.call.Call.TheVariants.{Arm, Draw, Look, Alarm, Take, Pull}
use Rattle.world.specs.declared.refused.By.TheVariants as by
use Rattle.world.specs.declared.refused.Refused.{Refused}

-- what the tests ask
pub record Facts : Type 0 where
  pub armed : Bool  -- the watch is armed
  pub fits : Bool  -- the memory fits
  pub full : Bool  -- C positions are held
  pub coming : Coming  -- what the source means
  pub later : Bool  -- the stamp of its first sample is later than the last that the strip took, or it took none
  pub seen : Bool  -- the position is accepted
  pub held : Bool  -- the position is held
  pub untaken : Bool  -- some position is untaken
  pub settled : Bool  -- the oldest untaken position is settled
  pub tray_free : Bool  -- the tray has a free place
  pub tray_later : Bool  -- the stamp of the oldest untaken position is later than the last that the tray took, or it took none
  pub tray_some : Bool  -- the tray has a reading

abbrev pub watch_refuses : Refusal → Refused
watch_refuses why = record { by = by.Watch; refusal = why }

-- a source's ending refuses a draw
abbrev pub ending_refuses : Ending → Refused
ending_refuses ending = record { by = by.Source; refusal = refusal_of ending }

abbrev pub source_refuses : Coming → Refused
source_refuses coming = ending_refuses coming.ending

-- what must hold, with the refusal where it does not
abbrev pub tests : Call → Facts → List (Bool × Refused)
tests (Arm rule) f = (not f.armed, watch_refuses refusal.Armed) ∷ (f.fits, watch_refuses refusal.Memory) ∷ []
tests Draw f =
    (f.armed, watch_refuses refusal.Idle)
    ∷ (f.fits, watch_refuses refusal.Memory)
    ∷ (not f.full, watch_refuses refusal.Full)
    ∷ (nat_lt 0 (length f.coming.samples), source_refuses f.coming)
    ∷ (f.later, watch_refuses refusal.Backward)
    ∷ []
tests (Look position) f =
    (f.armed, watch_refuses refusal.Idle)
    ∷ (f.fits, watch_refuses refusal.Memory)
    ∷ (f.seen, watch_refuses refusal.Unseen)
    ∷ (f.held, watch_refuses refusal.Gone)
    ∷ []
tests Alarm f = (f.armed, watch_refuses refusal.Idle) ∷ (f.fits, watch_refuses refusal.Memory) ∷ []
tests Take f =
    (f.armed, watch_refuses refusal.Idle)
    ∷ (f.fits, watch_refuses refusal.Memory)
    ∷ (f.untaken, watch_refuses refusal.Bare)
    ∷ (f.settled, watch_refuses refusal.Open)
    ∷ (f.tray_free, watch_refuses refusal.TrayFull)
    ∷ (f.tray_later, watch_refuses refusal.Backward)
    ∷ []
tests Pull f = (f.tray_some, watch_refuses refusal.TrayEmpty) ∷ []

-- the refusal of the first test that fails, if any does
abbrev pub first_refusal : List (Bool × Refused) → Option Refused
first_refusal [] = None
first_refusal (t ∷ ts) = cond t.0 (first_refusal ts) (Some t.1)

abbrev pub call_refusal : Call → Facts → Option Refused
call_refusal c f = first_refusal (tests c f)

abbrev pub rule_formula : Rule → Formula
rule_formula rule = formula (nodes_of rule)

-- memory that a watch can be armed with: a strip of more than span and at most 4096 places that took no record so far (`ever` is how
-- many it did), and a cell for each place and node
abbrev pub arm_fits : Rule → Sizes → ℕ → Bool
arm_fits rule s ever = ever == 0 && ((nat_lt (span (rule_formula rule)) s.places && nat_le s.places most_places) && s.cells == s.places * length (nodes_of rule))

-- memory of the lengths that the watch was armed with
abbrev pub still_fits : Rule → ℕ → Sizes → Bool
still_fits rule places s = s.places == places && s.cells == places * length (nodes_of rule)
