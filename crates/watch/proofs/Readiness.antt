-- The first two tests of most calls, and what they say of memory. Assumes nothing.
use Rattle.std.proofs.Common.{◌≡◌, ℕ, ◌*◌, true, cond, length, Some, Err, Option, ◌&&◌, eqb, List, sym, ap, subst, is_some, arith}
use Rattle.std.specs.Option.{option_map}
use Rattle.std.proofs.lemmas.Bool.Decides.{nat_tests}
use Rattle.std.proofs.lemmas.Grind.{common_steps}
use Rattle.refusal.specs.declared.Refusal.{Refusal}
use Rattle.refusal.specs.declared.Refusal.TheVariants as refusal
use Rattle.rule.specs.Made.{nodes_of}
use Rattle.sample.specs.declared.row.SampleRow.{SampleRow}
use Rattle.strip.specs.Ring.{Ring}
use Rattle.evaluation.specs.Memory.{cell_at}
use Rattle.evaluation.specs.declared.memory.Cell.{Cell}
use Rattle.world.specs.Tests.{watch_refuses}
use Rattle.world.specs.declared.refused.Refused.{Refused}
use Rattle.world.specs.Steps.{fits_armed, places_armed}
use Rattle.watch.specs.Memory.{last_armed, last_cell, last_node, stored, watch_fits}
use Rattle.watch.specs.Ready.{readiness}
use Rattle.watch.specs.declared.armed.Arming.{Arming}
use Rattle.watch.specs.declared.watch.Watch.{Watch}

module _ {V : Type 0} (x : Watch V) (strip : Ring SampleRow) (cells : ℕ) where
  -- what fitting memory is
  pub record Fitting (arming : Arming) : Type 0 where
    pub places_are : length strip.rows ≡ arming.places
    pub cells_are : cells ≡ arming.places * length (nodes_of arming.rule)
    pub taken_is : strip.taken ≡ x.accepted
    pub kept_is : strip.kept ≡ x.held

  pub fitting : (arming : Arming) → x.arming ≡ Some arming → watch_fits x strip cells ≡ true → Fitting arming
  fitting arming armed e =
      let is = subst (λ o. (fits_armed (option_map stored o) (record { places = length strip.rows; cells = cells; tray_places = 0 }) && (eqb strip.taken x.accepted && eqb strip.kept x.held)) ≡ true) armed e in
      record { places_are = grind (arith, nat_tests); cells_are = grind (arith, nat_tests); taken_is = grind (arith, nat_tests); kept_is = grind (arith, nat_tests) }

  -- the last node's cells, by what the watch is armed with
  pub cell_with : (arming : Arming) → x.arming ≡ Some arming → (ys : List Cell) (p : ℕ) → cell_at ys arming.places (last_node arming.rule) p ≡ last_cell x ys p
  cell_with arming armed ys p = sym (ap (λ o. cell_at ys (places_armed (option_map stored o)) (last_armed (option_map stored o)) p) armed)

  -- a call with these two tests first is refused by them, and not otherwise
  pub ready_refuses : (why : Refusal) (rest : Option Refused) → readiness x strip cells ≡ Err why → cond (is_some x.arming) (cond (watch_fits x strip cells) rest (Some (watch_refuses refusal.Memory))) (Some (watch_refuses refusal.Idle)) ≡ Some (watch_refuses why)
  ready_refuses why rest e = grind (arith, common_steps)
