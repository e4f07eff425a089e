-- The scale of the two verdicts. Assumes nothing.
use Rattle.std.specs.Prelude.{ℕ, zero, suc, Bool, true, false, cond, ℤ, pos, negsuc, nat_le}
use Rattle.scale.specs.Laws.{Ops}
use Rattle.scale.specs.declared.pass_fail.PassFail.{PassFail}
use Rattle.scale.specs.declared.pass_fail.PassFail.TheVariants.{Fail, Pass}

-- what a test says: pass where it is true
abbrev pub verdict_of : Bool → PassFail
verdict_of false = Fail
verdict_of true = Pass

abbrev either : PassFail → PassFail → PassFail
either Fail b = b
either Pass b = Pass

abbrev both : PassFail → PassFail → PassFail
both Fail b = Fail
both Pass b = b

abbrev opposite : PassFail → PassFail
opposite Fail = Pass
opposite Pass = Fail

abbrev passed : PassFail → Bool
passed Fail = false
passed Pass = true

abbrev agree : PassFail → PassFail → Bool
agree Fail Fail = true
agree Fail Pass = false
agree Pass Fail = false
agree Pass Pass = true

abbrev number : PassFail → ℤ
number Fail = pos 0
number Pass = pos 1

-- Pass from 1, and Fail from any other number
abbrev verdict : ℤ → PassFail
verdict (pos zero) = Fail
verdict (pos (suc zero)) = Pass
verdict (pos (suc (suc n))) = Fail
verdict (negsuc n) = Fail

abbrev pub pass_fail : Ops PassFail
pass_fail = record {
  or = either;
  and = both;
  turned = opposite;
  worst = Fail;
  best = Pass;
  same = agree;
  passes = passed;
  kept = number;
  restored = verdict;
}

-- pass unless the code is below the level
abbrev pub pass_fail_reading : ℕ → ℕ → PassFail
pass_fail_reading code level = cond (nat_le level code) Pass Fail
