-- The worked examples, computed. Assumes nothing.
use Rattle.std.proofs.Common.{refl}
use Rattle.logic.specs.Examples.{WorkedExamples}
use Rattle.logic.specs.Meaning.{ends, until_at, since_at, yesterday_at, lowest_failing}
use Rattle.logic.specs.Trace.{within}
use Rattle.logic.specs.Values.{any, all}

pub worked_examples : WorkedExamples
unfolding ends until_at since_at yesterday_at lowest_failing within any all
worked_examples = record {
  at_level = (refl, refl);
  below_level = (refl, refl);
  one_sample = record { low_is = refl; high_is = refl };
  three_samples = record { low_is = refl; high_is = refl };
  three_samples_next = record { low_is = refl; high_is = refl };
  three_samples_pass = record { low_is = refl; high_is = refl };
  four_samples = record { low_is = refl; high_is = refl };
  too_late = record { low_is = refl; high_is = refl };
  in_time = record { low_is = refl; high_is = refl };
  lost = record { low_is = refl; high_is = refl };
  lost_settled = record { low_is = refl; high_is = refl };
  lost_alarms = record { on_margins = refl; on_verdicts = refl };
  next_late = record { low_is = refl; high_is = refl };
  next_in_time = record { low_is = refl; high_is = refl };
  since_near = record { low_is = refl; high_is = refl };
  since_far = record { low_is = refl; high_is = refl };
}
