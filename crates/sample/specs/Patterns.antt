-- Patterns that a calibrator takes. Assumes nothing.
use Rattle.std.specs.Prelude.{◌+◌, ◌<◌, ◌≤◌}
use Rattle.scale.specs.Limits.{largest_code}
use Rattle.sample.specs.Limits.{stamp_limit, most_samples, longest_half}
use Rattle.sample.specs.declared.pattern.Pattern.{Pattern}

-- every figure is in range, and every stamp below the limit
pub record Fitting (p : Pattern) : Type 0 where
  pub first_early : p.first < stamp_limit
  pub few : p.count ≤ most_samples
  pub some_half : 0 < p.half_period
  pub short_half : p.half_period ≤ longest_half
  pub high_within : p.high ≤ largest_code
  pub low_within : p.low ≤ largest_code
  pub last_early : p.first + p.count ≤ stamp_limit
