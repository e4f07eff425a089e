use Rattle.logic.proofs.Lists.{stays_settled}
use Rattle.logic.proofs.stays_settled.Goals as goal

pub returns : goal.returns
returns g c = stays_settled g.met.S.Scale.lawful
