use Rattle.logic.proofs.Lists.{forgets}
use Rattle.logic.proofs.forgets.Goals as goal

pub returns : goal.returns
returns g c = forgets g.met.S.Scale.lawful
