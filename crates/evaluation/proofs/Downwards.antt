-- A range that is run backwards. Assumes nothing.
use Rattle.std.proofs.Common.{◌≡◌, ℕ, zero, suc, ◌-◌, ◌<◌, List, [], ◌∷◌, length, get_or, refl, ap, arith}

-- n positions, from the one before e down
abbrev pub down : ℕ → ℕ → List ℕ
down e zero = []
down e (suc n) = (e - 1) ∷ down (e - 1) n

pub length-down : (e n : ℕ) → length (down e n) ≡ n
length-down e zero = refl
length-down e (suc n) = ap suc (length-down (e - 1) n)

pub get_or-down : (e n i : ℕ) → i < n → get_or (down e n) i 0 ≡ e - 1 - i
get_or-down e zero i h = absurd (omega arith)
get_or-down e (suc n) zero h = omega arith
get_or-down e (suc n) (suc i) h = let r = get_or-down (e - 1) n i (omega arith) in omega arith
