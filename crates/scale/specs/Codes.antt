-- What making a code from a number answers. Assumes nothing.
use Rattle.std.specs.Prelude.{◌≡◌, ℕ, ◌<◌, Result, MatchResult}
use Rattle.refusal.specs.declared.Refusal.{Refusal}
use Rattle.refusal.specs.declared.Refusal.TheVariants.{Range}
use Rattle.scale.specs.Limits.{largest_code}
use Rattle.scale.specs.declared.code.Code.{Code}

-- the code with this number, or out of range where the number is above the largest code
abbrev pub CodeOf : ℕ → Result Code Refusal → Type 0
CodeOf value answer = MatchResult answer (λ code. code.value ≡ value) (λ why. (why ≡ Range) × (largest_code < value))
