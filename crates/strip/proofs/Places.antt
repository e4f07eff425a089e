-- Places in a ring. Assumes nothing.
use Rattle.std.proofs.Common.{◌≡◌, ℕ, ◌+◌, ◌*◌, ◌/◌, ◌%◌, ◌<◌, ◌≤◌, ◌≢◌, List, ◌++◌, length, get_or, sym, refl, ap, ◌∙◌, ⊎_elim, mod-eq_of_lt, mul-le-mul_left, arith}
use native.Mathlib.Decide.{dec_lt}
use native.Mathlib.Nat.{div-add-mod, mod-eq-sub-mod}
use Rattle.std.proofs.lemmas.List.{get_or_append_left, get_or-append_right}
use Rattle.std.proofs.lemmas.Bool.{cases_lt}

-- numbers less than n apart have different places
pub apart : (n p q : ℕ) → p < q → q < p + n → p % n ≢ q % n
apart n p q h l e = go (p / n) (q / n) (div-add-mod p n) (div-add-mod q n)
  where
    go : (a b : ℕ) → n * a + p % n ≡ p → n * b + q % n ≡ q → ⊥
    go a b u v =
        elim (dec_lt a b) [
          | yes d ↦ let t : n * (a + 1) ≤ n * b = mul-le-mul_left n (omega arith) in omega arith
          | no d ↦ let t : n * b ≤ n * a = mul-le-mul_left n (omega arith) in omega arith
        ]

-- a list twice over is the list gone round
pub get_or-round : {X : Type 0} (xs : List X) (i : ℕ) (d : X) → i < length xs + length xs → get_or (xs ++ xs) i d ≡ get_or xs (i % length xs) d
get_or-round xs i d h =
    ⊎_elim
    (λ l. get_or_append_left xs xs d i l ∙ ap (λ k. get_or xs k d) (sym (mod-eq_of_lt l)))
    (λ l. get_or-append_right xs xs (length xs) i d refl l ∙ ap (λ k. get_or xs k d) (sym (mod-eq-sub-mod l ∙ mod-eq_of_lt (omega arith))))
    (cases_lt i (length xs))
