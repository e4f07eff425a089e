use Rattle.std.proofs.Common.{ℕ, Some, sym, refl, ap}
use Rattle.rule.specs.declared.rule.Rule.{Rule}
use Rattle.strip.specs.Ring.{ring_of}
use Rattle.world.specs.World.{Armed}
use Rattle.watch.proofs.Refusing.{arm_armed, arm_unfit, arm_done}
use Rattle.watch.proofs.watch.Watch.arm.Goals as goal

-- what is stored
abbrev armed_by : Rule → ℕ → Armed
armed_by rule places = record { rule = rule; places = places }

pub returns-then-is_some : goal.returns-then-is_some
returns-then-is_some g c = λ tray coming. arm_armed g.met.S.Scale.lawful g.S.TestScale.reading c.args.self.now (ring_of c.args.strip.now) c.args.cells.now tray coming c.args.rule.now (sym c.if-is_some.ensures)

pub returns-then-not-can_arm : goal.returns-then-not-can_arm
returns-then-not-can_arm g c = λ tray coming. arm_unfit g.met.S.Scale.lawful g.S.TestScale.reading c.args.self.now (ring_of c.args.strip.now) c.args.cells.now tray coming c.args.rule.now (sym c.if-is_some.ensures) (sym c.if-not-can_arm.ensures)

pub returns : goal.returns
returns g c = λ tray coming. arm_done g.met.S.Scale.lawful g.S.TestScale.reading c.args.self.now (ring_of c.args.strip.now) c.args.cells.now tray coming c.args.rule.now _ (sym c.if-is_some.ensures) (sym c.if-not-can_arm.ensures) record {
  says = refl;
  armed_is = ap (λ n. Some (armed_by c.args.rule.now n)) c.places.ensures;
  accepted_stays = refl;
  taken_stays = refl;
  held_stays = refl;
  strip_stays = refl;
  cells_stay = refl;
  tray_stays = refl;
  coming_stays = refl;
}
