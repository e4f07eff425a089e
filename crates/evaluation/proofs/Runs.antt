-- What the passes that the code makes have found. Assumes nothing.
use Rattle.std.proofs.Common.{◌≡◌, ℕ, zero, suc, ◌+◌, ◌-◌, ◌<◌, ◌≤◌, Bool, true, false, cond, sym, refl, ap, ◌∙◌, ap₂, add-zero, add-suc, add-one, arith}
use Rattle.scale.specs.Laws.{Ops, Laws}
use Rattle.scale.proofs.Lattice.{or-worst}
use Rattle.logic.specs.Values.{when, any, all}
use Rattle.evaluation.specs.Pass.{Pass, step, run}

ap₃ : {A B C D : Type 0} (f : A → B → C → D) {a a' : A} {b b' : B} {c c' : C} → a ≡ a' → b ≡ b' → c ≡ c' → f a b c ≡ f a' b' c'
ap₃ f p q r = λ i. f (p i) (q i) (r i)

module _ {V : Type 0} (O : Ops V) where
  module _ (W : ℕ → Bool) (A B : ℕ → V) where
    pub run_none : {found so_far : V} → found ≡ O.worst → so_far ≡ O.best → record { found = found; so_far = so_far } ≡ run O W A B 0
    unfolding run
    run_none p q = ap₂ (λ x y. record { found = x; so_far = y }) p q

    pub run_then :
        (k : ℕ) (p : Pass V) {q : Pass V} {left right : V} {test : Bool} →
        p ≡ run O W A B k →
        q ≡ step O p test left right →
        test ≡ W k →
        left ≡ A k →
        right ≡ B k →
        q ≡ run O W A B (k + 1)
    unfolding run
    run_then k p e q t l r =
        q
        ∙ ap₃ (λ x a b. step O p x a b) t l r
        ∙ ap (λ q. step O q (W k) (A k) (B k)) e
        ∙ ap (run O W A B) (sym (add-one k))

    -- where the test fails nothing more is found
    run_longer : (k d : ℕ) → ((i : ℕ) → k ≤ i → i < k + d → W i ≡ false) → (run O W A B k).found ≡ (run O W A B (k + d)).found
    unfolding run
    run_longer k zero h = ap (λ x. (run O W A B x).found) (sym (add-zero k))
    run_longer k (suc d) h =
        let f = run O W A B (k + d) in
        let off : W (k + d) ≡ false = h (k + d) (omega arith) (omega arith) in
        rw add-suc (run_longer k d (λ i p q. h i p (omega arith)) ∙ sym (ap (λ b. cond b (O.or f.found (O.and f.so_far (B (k + d)))) f.found) off))

    pub run_stops : (k n : ℕ) → k ≤ n → ((i : ℕ) → k ≤ i → i < n → W i ≡ false) → (run O W A B k).found ≡ (run O W A B n).found
    run_stops k n l h =
        let e : k + (n - k) ≡ n = omega arith in
        run_longer k (n - k) (λ i p q. h i p (omega arith)) ∙ ap (λ x. (run O W A B x).found) e

  pub run_same :
      (W W' : ℕ → Bool) (A A' B B' : ℕ → V) (c : ℕ) →
      ((i : ℕ) → i < c → (W i ≡ W' i) × (A i ≡ A' i) × (B i ≡ B' i)) →
      run O W A B c ≡ run O W' A' B' c
  unfolding run
  run_same W W' A A' B B' zero h = refl
  run_same W W' A A' B B' (suc c) h =
      let e = h c (omega arith) in
      ap (λ q. step O q (W c) (A c) (B c)) (run_same W W' A A' B B' c (λ i l. h i (omega arith)))
      ∙ ap₃ (λ x a b. step O (run O W' A' B' c) x a b) e.0 e.1 e.2

pub or_when : {V : Type 0} {O : Ops V} → Laws O → (b : Bool) (x y : V) → cond b (O.or x y) x ≡ O.or x (when O b y)
or_when L true x y = refl
or_when L false x y = sym (or-worst L x)

module _ {V : Type 0} {O : Ops V} (L : Laws O) (W : ℕ → Bool) (A B : ℕ → V) where
  -- forwards from j
  pub run_on :
      (j c : ℕ) →
      ((run O (λ i. W (j + i)) (λ i. A (j + i)) (λ i. B (j + i)) c).found ≡ any O j c (λ k. when O (W k) (O.and (all O j (k - j) A) (B k))))
      × ((run O (λ i. W (j + i)) (λ i. A (j + i)) (λ i. B (j + i)) c).so_far ≡ all O j c A)
  unfolding run any all
  run_on j zero = (refl, refl)
  run_on j (suc c) =
      let p = run_on j c in
      let e : c ≡ (j + c) - j = omega arith in (
        or_when L (W (j + c)) _ _
            ∙ ap₂ O.or p.0 (ap (λ x. when O (W (j + c)) (O.and x (B (j + c)))) (p.1 ∙ ap (λ x. all O j x A) e)),
        ap (λ x. O.and x (A (j + c))) p.1,
      )

  -- the first term apart
  any_first : (f : ℕ → V) (j c : ℕ) → O.or (any O (suc j) c f) (f j) ≡ any O j (suc c) f
  unfolding any
  any_first f j zero = ap (λ k. O.or O.worst (f k)) (sym (add-zero j))
  any_first f j (suc c) =
      L.or_assoc _ _ _
      ∙ ap (O.or _) (L.or_comm _ _)
      ∙ sym (L.or_assoc _ _ _)
      ∙ ap₂ O.or (any_first f j c) (ap f (omega arith))

  all_first : (f : ℕ → V) (j c : ℕ) → O.and (all O (suc j) c f) (f j) ≡ all O j (suc c) f
  unfolding all
  all_first f j zero = ap (λ k. O.and O.best (f k)) (sym (add-zero j))
  all_first f j (suc c) =
      L.and_assoc _ _ _
      ∙ ap (O.and _) (L.and_comm _ _)
      ∙ sym (L.and_assoc _ _ _)
      ∙ ap₂ O.and (all_first f j c) (ap f (omega arith))

  -- backwards from j, down to k
  pub run_back :
      (j k c : ℕ) →
      k + c ≡ suc j →
      ((run O (λ i. W (j - i)) (λ i. A (j - i)) (λ i. B (j - i)) c).found ≡ any O k c (λ i. when O (W i) (O.and (all O (suc i) (j - i) A) (B i))))
      × ((run O (λ i. W (j - i)) (λ i. A (j - i)) (λ i. B (j - i)) c).so_far ≡ all O k c A)
  unfolding run any all
  run_back j k zero h = (refl, refl)
  run_back j k (suc c) h =
      let p = run_back j (suc k) c (omega arith) in
      let here : j - c ≡ k = omega arith in
      let len : c ≡ j - k = omega arith in
      let f : ℕ → V = λ i. when O (W i) (O.and (all O (suc i) (j - i) A) (B i)) in
      rw here (
        or_when L (W k) _ _
            ∙ ap₂ O.or p.0 (ap (λ x. when O (W k) (O.and x (B k))) (p.1 ∙ ap (λ x. all O (suc k) x A) len))
            ∙ any_first f k c,
        ap (λ x. O.and x (A k)) p.1 ∙ all_first A k c,
      )
