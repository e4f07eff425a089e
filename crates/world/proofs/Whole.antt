-- The whole law. Assumes nothing.
use Rattle.std.proofs.Common.{ℕ}
use Rattle.scale.specs.Laws.{Ops, Laws}
use Rattle.world.proofs.Accounting.{accounting}
use Rattle.world.proofs.Besides.{besides}
use Rattle.world.proofs.GoingOn.{going_on}
use Rattle.world.proofs.Saying.{saying}
use Rattle.world.specs.Law.{Law}

pub law : {V : Type 0} {ops : Ops V} → Laws ops → (read : ℕ → ℕ → V) → Law ops read
law laws read = record {
  saying = saying laws read;
  going_on = going_on laws read;
  accounting = accounting laws read;
  besides = besides laws read;
}
