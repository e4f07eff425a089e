-- Worked examples, over pass/fail and over margins. Assumes nothing.
use Rattle.std.specs.Prelude.{◌≡◌, ℕ, List, [], ◌∷◌, ℤ, pos, negsuc, Some, Option}
use Rattle.scale.specs.Margins.{margins, margin_reading}
use Rattle.scale.specs.PassFails.{pass_fail, pass_fail_reading}
use Rattle.scale.specs.declared.pass_fail.PassFail.{PassFail}
use Rattle.scale.specs.declared.pass_fail.PassFail.TheVariants.{Pass, Fail}
use Rattle.sample.specs.declared.row.SampleRow.{SampleRow}
use Rattle.logic.specs.Formula.{Formula, truth, level, neg, either, next, until, since}
use Rattle.logic.specs.Meaning.{ends, alarm_from}
use Rattle.logic.specs.Trace.{trace}

-- a stamp and the codes of channels 0 and 1
abbrev sample : ℕ → ℕ → ℕ → SampleRow
sample t a b = record { stamp = t; codes = a ∷ b ∷ 0 ∷ 0 ∷ [] }

abbrev p : Formula
p = level 0 2048

abbrev q : Formula
q = level 1 2048

-- wherever p is, q is within 3 ticks
abbrev W : Formula
W = either (neg p) (until 0 3 truth q)

-- the margins of the two ends
pub record Margins (σ : List SampleRow) (A : Formula) (j : ℕ) (low high : ℤ) : Type 0 where
  pub low_is : (ends margins margin_reading (trace σ) A j).low.value ≡ low
  pub high_is : (ends margins margin_reading (trace σ) A j).high.value ≡ high

-- the verdicts of the two ends
pub record Verdicts (σ : List SampleRow) (A : Formula) (j : ℕ) (low high : PassFail) : Type 0 where
  pub low_is : (ends pass_fail pass_fail_reading (trace σ) A j).low ≡ low
  pub high_is : (ends pass_fail pass_fail_reading (trace σ) A j).high ≡ high

-- the lowest failing position, on both scales
pub record Alarms (σ : List SampleRow) (A : Formula) (at : Option ℕ) : Type 0 where
  pub on_margins : alarm_from margins margin_reading (trace σ) A 0 ≡ at
  pub on_verdicts : alarm_from pass_fail pass_fail_reading (trace σ) A 0 ≡ at

pub record WorkedExamples : Type 0 where
  -- a code at the level passes by a half code, and fails by one just below it
  pub at_level : (pass_fail_reading 2048 2048 ≡ Pass) × ((margin_reading 2048 2048).value ≡ pos 1)
  pub below_level : (pass_fail_reading 2047 2048 ≡ Fail) × ((margin_reading 2047 2048).value ≡ negsuc 0)
  -- W as the samples come
  pub one_sample : Margins (sample 10 3000 0 ∷ []) W 0 (negsuc 1904) (pos 8193)
  pub three_samples : Margins (sample 10 3000 0 ∷ sample 11 3000 100 ∷ sample 13 0 2100 ∷ []) W 0 (pos 105) (pos 105)
  pub three_samples_next : Margins (sample 10 3000 0 ∷ sample 11 3000 100 ∷ sample 13 0 2100 ∷ []) W 1 (pos 105) (pos 8193)
  pub three_samples_pass : Verdicts (sample 10 3000 0 ∷ sample 11 3000 100 ∷ sample 13 0 2100 ∷ []) W 1 Pass Pass
  pub four_samples : Margins (sample 10 3000 0 ∷ sample 11 3000 100 ∷ sample 13 0 2100 ∷ sample 14 0 0 ∷ []) W 1 (pos 105) (pos 105)
  -- the high bound is part of the window
  pub too_late : Margins (sample 10 3000 0 ∷ sample 14 0 3000 ∷ []) W 0 (negsuc 1904) (negsuc 1904)
  pub in_time : Margins (sample 10 3000 0 ∷ sample 13 0 3000 ∷ []) W 0 (pos 1905) (pos 1905)
  -- an until that cannot pass any more, although its margin is not settled
  pub lost : Margins (sample 0 0 0 ∷ []) (until 2 5 p q) 0 (negsuc 8192) (negsuc 4094)
  pub lost_settled : Verdicts (sample 0 0 0 ∷ []) (until 2 5 p q) 0 Fail Fail
  pub lost_alarms : Alarms (sample 0 0 0 ∷ []) (until 2 5 p q) (Some 0)
  -- next, within its bounds and past them
  pub next_late : Margins (sample 5 0 0 ∷ sample 8 3000 0 ∷ []) (next 0 2 p) 0 (negsuc 8192) (negsuc 8192)
  pub next_in_time : Margins (sample 5 0 0 ∷ sample 7 3000 0 ∷ []) (next 0 2 p) 0 (pos 1905) (pos 1905)
  -- since, with its witness within the bounds and past them
  pub since_near : Margins (sample 0 0 3000 ∷ sample 4 3000 0 ∷ []) (since 0 4 p q) 1 (pos 1905) (pos 1905)
  pub since_far : Margins (sample 0 0 3000 ∷ sample 4 3000 0 ∷ []) (since 0 3 p q) 1 (negsuc 4094) (negsuc 4094)
