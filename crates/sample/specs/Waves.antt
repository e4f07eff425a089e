-- The square wave of a pattern, and what is left of it in a calibrator. Assumes nothing.
use Rattle.std.specs.Prelude.{ℕ, zero, suc, ◌+◌, ◌-◌, ◌/◌, ◌%◌, cond, List, [], ◌∷◌, ◌==◌}
use Rattle.sample.specs.Coming.{Coming}
use Rattle.sample.specs.declared.calibrator.Calibrator.{Calibrator}
use Rattle.sample.specs.declared.ending.Ending.TheVariants.{Dry}
use Rattle.sample.specs.declared.pattern.Pattern.{Pattern}
use Rattle.sample.specs.declared.row.SampleRow.{SampleRow}

-- sample k: the high code in each even half of a period, the low code in each odd one
abbrev pub wave_at : Pattern → ℕ → SampleRow
wave_at p k = record { stamp = p.first + k; codes = cond (k / p.half_period % 2 == 0) p.high p.low ∷ 0 ∷ 0 ∷ 0 ∷ [] }

-- n samples, from sample k on
abbrev pub wave_from : Pattern → ℕ → ℕ → List SampleRow
wave_from p k zero = []
wave_from p k (suc n) = wave_at p k ∷ wave_from p (suc k) n

-- the whole wave, and then dry
abbrev pub wave : Pattern → Coming
wave p = record { samples = wave_from p 0 p.count; ending = Dry }

-- what a calibrator has yet to give
abbrev pub wave_left : Calibrator → Coming
wave_left c = record { samples = wave_from c.pattern c.taken (c.pattern.count - c.taken); ending = Dry }
