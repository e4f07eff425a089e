-- The scale of margins. Assumes nothing.
use Rattle.std.specs.Prelude.{◌≡◌, ℕ, ◌%◌, ◌≤◌, min, Bool, true, false, cond, ◌&&◌, ℤ, pos, negsuc, ◌+ℤ◌, ◌-ℤ◌, ◌*ℤ◌, neg_ℤ, ◌==◌, int_lt, nat_le, unsigned_abs, refl}
use Rattle.std.proofs.Common.{arith, leb-true, eqb-true}
use Rattle.std.proofs.lemmas.Int.{ints}
use Rattle.std.specs.Int.{int_max, int_min}
use Rattle.std.proofs.lemmas.Bool.{and_parts}
use Rattle.scale.specs.Laws.{Ops}
use Rattle.scale.specs.Limits.{largest_code, best_margin}
use Rattle.scale.specs.declared.margin.Margin.{Margin}

-- a number that a margin can have: odd, and within the limits
pub record Fit (z : ℤ) : Type 0 where
  pub odd : unsigned_abs z % 2 ≡ 1
  pub near : unsigned_abs z ≤ best_margin

abbrev margin : (z : ℤ) → Fit z → Margin
margin z f = record { value = z; odd = f.odd; near = f.near }

abbrev pub fit : (a : Margin) → Fit a.value
fit a = record { odd = a.odd; near = a.near }

pub either_fits : (t : Bool) (x y : ℤ) → Fit x → Fit y → Fit (cond t x y)
either_fits true x y f g = f
either_fits false x y f g = g

abbrev greater : Margin → Margin → Margin
greater a b = margin (int_max a.value b.value) (either_fits _ _ _ (fit a) (fit b))

abbrev lesser : Margin → Margin → Margin
lesser a b = margin (int_min a.value b.value) (either_fits _ _ _ (fit b) (fit a))

pub negative_fits : (z : ℤ) → Fit z → Fit (neg_ℤ z)
negative_fits z f = record { odd = omega (arith, ints); near = omega (arith, ints) }

abbrev opposite : Margin → Margin
opposite a = margin (neg_ℤ a.value) (negative_fits _ (fit a))

pub best_fits : Fit (pos best_margin)
best_fits = record { odd = refl; near = omega arith }

abbrev highest : Margin
highest = margin (pos best_margin) best_fits

abbrev lowest : Margin
lowest = opposite highest

-- whether two numbers are equal
abbrev agree : ℤ → ℤ → Bool
agree (pos m) (pos n) = m == n
agree (pos m) (negsuc n) = false
agree (negsuc m) (pos n) = false
agree (negsuc m) (negsuc n) = m == n

-- whether a margin can have the number
abbrev pub fits : ℤ → Bool
fits z = nat_le (unsigned_abs z) best_margin && unsigned_abs z % 2 == 1

pub tested_fits : (z : ℤ) → fits z ≡ true → Fit z
tested_fits z e = let p = and_parts _ _ e in record { odd = eqb-true _ _ p.1; near = leb-true _ _ p.0 }

-- the margin of a number, and the worst where no margin has it
abbrev pub tested : (z : ℤ) (t : Bool) → fits z ≡ t → Margin
tested z true e = margin z (tested_fits z e)
tested z false e = lowest

abbrev pub margins : Ops Margin
margins = record {
  or = greater;
  and = lesser;
  turned = opposite;
  worst = lowest;
  best = highest;
  same = λ a b. agree a.value b.value;
  passes = λ a. int_lt (pos 0) a.value;
  kept = λ a. a.value;
  restored = λ z. tested z (fits z) refl;
}

-- 2 × (code − level) + 1
abbrev pub distance : ℕ → ℕ → ℤ
distance code level = pos 2 *ℤ (pos code -ℤ pos level) +ℤ pos 1

-- no code has a number above the largest; here it counts as the largest, so that every reading is a margin
abbrev nearest : ℕ → ℕ
nearest n = min n largest_code

pub reading_fits : (code level : ℕ) → Fit (distance (nearest code) (nearest level))
reading_fits code level = record { odd = omega (arith, ints); near = omega (arith, ints) }

-- what a code reads as against a level
abbrev pub margin_reading : ℕ → ℕ → Margin
margin_reading code level = margin (distance (nearest code) (nearest level)) (reading_fits code level)
