-- Windows and rising stamps. Assumes nothing.
use Rattle.std.proofs.Common.{◌≡◌, ℕ, ◌+◌, ◌<◌, ◌≤◌, Bool, true, false, ◌&&◌, T, ltb, leb, sym, refl, subst, le_refl, arith, lt→ltb, leb→le}
use native.Mathlib.Decide.{dec_lt}
use Rattle.std.proofs.lemmas.Bool.Decides.{nat_tests}
use Rattle.logic.specs.Trace.{Trace, Rising, within}

and_T : (a b : Bool) → T (a && b) → T a × T b
and_T true true t = (tt, tt)
and_T true false t = absurd t
and_T false b t = absurd t

pub not_lt : (a b : ℕ) → (T (ltb a b) → ⊥) → b ≤ a
not_lt a b h = elim (dec_lt a b) [ yes l ↦ absurd (h (lt→ltb a b l)) | no l ↦ omega arith ]

pub gap : (t : ℕ → ℕ) (lo hi j k : ℕ) → T (within t lo hi j k) → (t j + lo ≤ t k) × (t k ≤ t j + hi)
unfolding within
gap t lo hi j k w = let b = and_T (leb (t j + lo) (t k)) (leb (t k) (t j + hi)) w in (leb→le _ _ b.0, leb→le _ _ b.1)

-- too far apart for the window
pub none_within : (t : ℕ → ℕ) (lo hi j k : ℕ) → t j + hi < t k → within t lo hi j k ≡ false
none_within t lo hi j k h = go (within t lo hi j k) refl
  where
    go : (b : Bool) → within t lo hi j k ≡ b → within t lo hi j k ≡ false
    go true e = let g = gap t lo hi j k (subst T (sym e) tt) in absurd (omega arith)
    go false e = e

pub lt_shift : (d a b : ℕ) → ltb (d + a) (d + b) ≡ ltb a b
lt_shift d a b = grind (arith, nat_tests)

pub rising : (σ : Trace) → Rising σ → (a b : ℕ) → a ≤ b → b < σ.size → σ.stamp a ≤ σ.stamp b
rising σ up a b p q = elim (dec_lt a b) [ yes l ↦ let s = up a b l q in omega arith | no l ↦ let e : a ≡ b = omega arith in rw e (le_refl _) ]
