-- What a number restores: the margin that has it, or else the worst. Two theorems about the definition, for its reader; no proof cites them. Assumes nothing.
use Rattle.std.specs.Prelude.{◌≡◌, Bool, true, false, ℤ, refl}
use Rattle.std.proofs.Common.{le-leb, eq-eqb}
use Rattle.std.proofs.lemmas.Bool.{both_ways}
use Rattle.scale.specs.Margins.{Fit, fits, tested, tested_fits, margins}

pub fitting : (z : ℤ) (t : Bool) (e : fits z ≡ t) → Fit z → (tested z t e).value ≡ z
fitting z true e f = refl
fitting z false e f = absurd (both_ways _ e (rw (le-leb _ _ f.near, eq-eqb _ _ f.odd)))

pub foreign : (z : ℤ) (t : Bool) (e : fits z ≡ t) → (Fit z → ⊥) → (tested z t e).value ≡ margins.worst.value
foreign z true e n = absurd (n (tested_fits z e))
foreign z false e n = refl
