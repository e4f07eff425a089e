use Rattle.std.proofs.Common.{rules}
use Rattle.sample.proofs.Wave.{wave_more}
use Rattle.sample.proofs.calibrator.CalibratorSource.step.Goals as goal

pub returns-then-self : goal.returns-then-self
returns-then-self c = search (rules, wave_more)
