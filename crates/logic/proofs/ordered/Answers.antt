use Rattle.logic.specs.Trace.{trace}
use Rattle.logic.proofs.Narrow.{ordered}
use Rattle.logic.proofs.ordered.Goals as goal

pub returns : goal.returns
returns g c = λ read φ σ j. ordered g.met.S.Scale.lawful read (trace σ) φ j
