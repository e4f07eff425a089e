use Rattle.logic.proofs.Lists.{encloses}
use Rattle.logic.proofs.encloses.Goals as goal

pub returns : goal.returns
returns g c = encloses g.met.S.Scale.lawful
