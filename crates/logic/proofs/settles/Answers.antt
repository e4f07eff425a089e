use Rattle.logic.specs.Trace.{trace}
use Rattle.logic.proofs.Settle.{settled}
use Rattle.logic.proofs.settles.Goals as goal

pub returns : goal.returns
returns g c = λ read φ σ j up p q. settled g.met.S.Scale.lawful read (trace σ) up φ j p q
