-- How many numbers pass a test. Assumes nothing.
use Rattle.std.proofs.Common.{◌≡◌, ℕ, zero, suc, ◌+◌, ◌-◌, ◌<◌, ◌≤◌, Bool, true, false, cond, ◌&&◌, ltb, ◌⊎◌, ◌∷◌, ◌++◌, refl, ap, ◌∙◌, inl, inr, add-zero, suc-add, zero-add, add-one, arith}
use Rattle.std.specs.List.{range_with_len}
use Rattle.std.proofs.lemmas.Bool.{cond_both, cases_eq, lt-ltb, le-ltb}
use Rattle.world.specs.Steps.{many}

-- rising numbers between low and a bound are few
pub crowd : (t : ℕ → ℕ) (p : ℕ → Bool) (low n bound : ℕ) → ((a b : ℕ) → a < b → b < n → t a < t b) → ((j : ℕ) → j < n → t j < bound) → ((j : ℕ) → j < n → p j ≡ true → low ≤ t j) → many p n ≤ bound - low
unfolding many
crowd t p low zero bound up under over = omega arith
crowd t p low (suc n) bound up under over =
    cond_both (p n) _ _ (λ x. x ≤ bound - low)
    (λ e.
    let r = crowd t p low n (t n) (λ a b x y. up a b x (omega arith)) (λ j x. up j n x (omega arith)) (λ j x. over j (omega arith)) in
    let u = under n (omega arith) in
    let o = over n (omega arith) e in
    omega arith)
    (λ e. crowd t p low n bound (λ a b x y. up a b x (omega arith)) (λ j x. under j (omega arith)) (λ j x. over j (omega arith)))

-- two tests that agree below n
pub many_same : (p q : ℕ → Bool) (n : ℕ) → ((j : ℕ) → j < n → p j ≡ q j) → many p n ≡ many q n
unfolding many
many_same p q zero h = refl
many_same p q (suc n) h = rw (h n (omega arith), many_same p q n (λ j x. h j (omega arith))) refl

-- a test that implies another
pub many_fewer : (p q : ℕ → Bool) (n : ℕ) → ((j : ℕ) → j < n → p j ≡ true → q j ≡ true) → many p n ≤ many q n
unfolding many
many_fewer p q zero h = omega arith
many_fewer p q (suc n) h =
    let r = many_fewer p q n (λ j x. h j (omega arith)) in
    cond_both (p n) _ _ (λ x. x ≤ cond (q n) (suc (many q n)) (many q n))
    (λ e. rw (h n (omega arith) e) (omega arith))
    (λ e. cond_both (q n) _ _ (λ x. many p n ≤ x) (λ f. omega arith) (λ f. r))

pub many_next : (p : ℕ → Bool) (n : ℕ) → many p (n + 1) ≤ suc (many p n)
unfolding many
many_next p n = rw add-one (cond_both (p n) _ _ (λ x. x ≤ suc (many p n)) (λ e. omega arith) (λ e. omega arith))

-- two tests that agree but at k
pub many_less : (p q : ℕ → Bool) (k n : ℕ) → k < n → p k ≡ true → q k ≡ false → ((j : ℕ) → (j ≡ k → ⊥) → p j ≡ q j) → suc (many q n) ≡ many p n
unfolding many
many_less p q k zero l e f h = absurd (omega arith)
many_less p q k (suc n) l e f h = elim (cases_eq n k) [
  | inl x ↦ (
      let e' : p n ≡ true = rw x e in
      let f' : q n ≡ false = rw x f in
      rw (e', f', many_same p q n (λ j y. h j (λ z. omega arith))) refl)
  | inr x ↦ (
      let r = many_less p q k n (omega arith) e f h in
      rw (h n x, ← r) (cond_both (q n) _ _ (λ y. suc y ≡ cond (q n) (suc (suc (many q n))) (suc (many q n))) (λ e. rw e refl) (λ e. rw e refl)))
]

-- p holds where q or r does, and these never both
pub many_split : (p q r : ℕ → Bool) (n : ℕ) → ((j : ℕ) → j < n → ((q j ≡ true) × (r j ≡ false) × (p j ≡ true)) ⊎ ((q j ≡ false) × (r j ≡ p j))) → many p n ≡ many q n + many r n
unfolding many
many_split p q r zero h = omega arith
many_split p q r (suc n) h =
    let e = many_split p q r n (λ j l. h j (omega arith)) in
    elim (h n (omega arith)) [
      | inl x ↦ rw (x.0, x.1, x.2) (omega arith)
      | inr x ↦ rw (x.0, x.1) (cond_both (p n) _ _ (λ y. y ≡ many q n + cond (p n) (suc (many r n)) (many r n)) (λ f. rw f (omega arith)) (λ f. rw f (omega arith)))
    ]

-- a test below n, over one number more
pub many_below : (p : ℕ → Bool) (n : ℕ) → many (λ j. ltb j n && p j) (suc n) ≡ many p n
unfolding many
many_below p n = rw (le-ltb n n (omega arith)) (many_same (λ j. ltb j n && p j) p n (λ j l. rw (lt-ltb j n l) refl))

pub counting_join : (j a b : ℕ) → range_with_len j (a + b) ≡ range_with_len j a ++ range_with_len (j + a) b
counting_join j zero b = rw (zero-add, add-zero) refl
counting_join j (suc a) b = rw (suc-add) (ap (λ l. j ∷ l) (counting_join (j + 1) a b ∙ ap (λ k. range_with_len (j + 1) a ++ range_with_len k b) (omega arith)))
