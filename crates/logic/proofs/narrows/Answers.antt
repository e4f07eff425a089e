use Rattle.logic.proofs.Lists.{narrows}
use Rattle.logic.proofs.narrows.Goals as goal

pub returns : goal.returns
returns g c = narrows g.met.S.Scale.lawful
