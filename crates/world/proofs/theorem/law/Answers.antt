use Rattle.world.proofs.Whole.{law}
use Rattle.world.proofs.theorem.law.Goals as goal

pub returns : goal.returns
returns g c = law g.met.S.Scale.lawful g.S.TestScale.reading
