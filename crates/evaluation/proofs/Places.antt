-- Places in the memory. Assumes nothing.
use Rattle.std.proofs.Common.{◌≡◌, ℕ, ◌+◌, ◌*◌, ◌/◌, ◌%◌, ◌<◌, ◌≤◌, ◌≢◌, mul-le-mul_right, mod-lt, mul-le-mul_left, arith}
use native.Mathlib.Nat.{div-add-mod}
use native.Mathlib.Decide.{dec_lt}
use Rattle.evaluation.specs.Memory.{place}

-- positions less than C apart have different places
pub apart : (C p q : ℕ) → p < q → q < p + C → p % C ≢ q % C
apart C p q h l e = go (p / C) (q / C) (div-add-mod p C) (div-add-mod q C)
  where
    go : (a b : ℕ) → C * a + p % C ≡ p → C * b + q % C ≡ q → ⊥
    go a b u v =
        elim (dec_lt a b) [
          | yes d ↦ let t : C * (a + 1) ≤ C * b = mul-le-mul_left C (omega arith) in omega arith
          | no d ↦ let t : C * b ≤ C * a = mul-le-mul_left C (omega arith) in omega arith
        ]

pub place_apart : (C m p q : ℕ) → p < q → q < p + C → place C m p ≢ place C m q
place_apart C m p q h l e = apart C p q h l (omega arith)

-- places of an earlier node
pub place_earlier : (C a m p q : ℕ) → 0 < C → a < m → place C a p ≢ place C m q
place_earlier C a m p q some h e =
    let t : (a + 1) * C ≤ m * C = mul-le-mul_right C (omega arith) in
    let r : p % C < C = mod-lt p some in
    omega arith

pub place_below : (C a m p : ℕ) → 0 < C → a < m → place C a p < m * C
place_below C a m p some h =
    let t : (a + 1) * C ≤ m * C = mul-le-mul_right C (omega arith) in
    let r : p % C < C = mod-lt p some in
    omega arith
