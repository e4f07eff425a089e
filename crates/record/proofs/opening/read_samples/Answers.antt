use Rattle.std.proofs.Common.{refl, arith}
use Rattle.record.specs.Opening.{wrong_sample_count, samples_cut, more_bytes}
use Rattle.record.proofs.opening.read_samples.Goals as goal

pub returns-then-samples-gt-MOST_SAMPLES : goal.returns-then-samples-gt-MOST_SAMPLES
returns-then-samples-gt-MOST_SAMPLES c =
    wrong_sample_count _ _ c.at-then-samples-gt-MOST_SAMPLES.ensures c.in-Some.ensures c.if-samples-gt-MOST_SAMPLES.true

pub returns-then-body-size : goal.returns-then-body-size
returns-then-body-size c = samples_cut _ _ c.at-then-body-size.ensures c.in-Some.ensures c.if-samples-gt-MOST_SAMPLES.false c.if-body-size.true

pub returns-then-body-size-2 : goal.returns-then-body-size-2
returns-then-body-size-2 c = more_bytes _ _ c.at-then-body-size-2.ensures c.in-Some.ensures c.if-samples-gt-MOST_SAMPLES.false c.if-body-size-2.true

pub returns : goal.returns
returns c = (record { body = _; whole = c.in-Some.ensures; few = c.if-samples-gt-MOST_SAMPLES.false; sixteen = omega arith }, refl)
