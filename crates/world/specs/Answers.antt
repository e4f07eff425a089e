-- The number and the place of each answer. Assumes nothing.
use Rattle.std.specs.Prelude.{ℕ, Some, None, Option}
use Rattle.refusal.specs.declared.Refusal.{Refusal}
use Rattle.refusal.specs.Table as table
use Rattle.world.specs.declared.answer.Answer.{Answer}
use Rattle.world.specs.declared.answer.Answer.TheVariants.{Refused}

-- the refusal of a call that was refused
abbrev pub refusal_in : {V : Type 0} → Answer V → Option Refusal
refusal_in (Refused r) = Some r.refusal
refusal_in _ = None

-- 0 for what was accepted, else the refusal's number
abbrev pub number_of : {V : Type 0} → Answer V → ℕ
number_of (Refused r) = table.number_of r.refusal
number_of _ = 0

-- the place of a source's fault, else 0
abbrev pub place_of : {V : Type 0} → Answer V → ℕ
place_of (Refused r) = table.place_of r.refusal
place_of _ = 0
