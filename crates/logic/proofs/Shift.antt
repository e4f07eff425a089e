-- Rows that begin d positions later. Assumes nothing.
use Rattle.std.proofs.Common.{◌≡◌, ℕ, zero, suc, ◌+◌, ◌-◌, ◌<◌, Bool, false, refl, ap, ◌∙◌, ap₂, add-zero, add_assoc, add-suc, arith}
use Rattle.scale.specs.Laws.{Ops, Laws}
use Rattle.logic.specs.Values.{when, any, all}
use Rattle.logic.specs.Meaning.{until_at, since_at, yesterday_at}
use Rattle.scale.proofs.Lattice.{or-worst}
use Rattle.logic.proofs.Rows.{equal_kept, any_rel}

module _ {V : Type 0} (O : Ops V) where
  any_shift : (f : ℕ → V) (d j c : ℕ) → any O (d + j) c f ≡ any O j c (λ k. f (d + k))
  unfolding any
  any_shift f d j zero = refl
  any_shift f d j (suc c) = ap₂ O.or (any_shift f d j c) (ap f (add_assoc d j c))

  pub all_shift : (f : ℕ → V) (d j c : ℕ) → all O (d + j) c f ≡ all O j c (λ k. f (d + k))
  unfolding all
  all_shift f d j zero = refl
  all_shift f d j (suc c) = ap₂ O.and (all_shift f d j c) (ap f (add_assoc d j c))

  all_moved : (f : ℕ → V) (d j c j' c' : ℕ) → j' ≡ d + j → c' ≡ c → all O j' c' f ≡ all O j c (λ k. f (d + k))
  all_moved f d j c j' c' p q = ap₂ (λ x y. all O x y f) p q ∙ all_shift f d j c

  pub until_shift :
      (d n j : ℕ) (W : ℕ → Bool) (A B : ℕ → V) →
      until_at O (d + n) W A B (d + j) ≡ until_at O n (λ k. W (d + k)) (λ k. A (d + k)) (λ k. B (d + k)) j
  unfolding until_at
  until_shift d n j W A B =
      let f : ℕ → V = λ k. when O (W k) (O.and (all O (d + j) (k - (d + j)) A) (B k)) in
      let e : (d + n) - (d + j) ≡ n - j = omega arith in
      ap (λ x. any O (d + j) x f) e
      ∙ any_shift f d j (n - j)
      ∙ any_rel (equal_kept O) _ _ j (n - j) (λ k p q.
      ap (λ x. when O (W (d + k)) (O.and x (B (d + k)))) (all_moved A d j (k - j) (d + j) ((d + k) - (d + j)) refl (omega arith)))

  module _ (L : Laws O) where
    any_none : (f : ℕ → V) (d : ℕ) → ((k : ℕ) → k < d → f k ≡ O.worst) → any O 0 d f ≡ O.worst
    unfolding any
    any_none f zero h = refl
    any_none f (suc d) h = ap₂ O.or (any_none f d (λ k p. h k (omega arith))) (h (0 + d) (omega arith)) ∙ or-worst L _

    any_skip : (f : ℕ → V) (d c : ℕ) → ((k : ℕ) → k < d → f k ≡ O.worst) → any O 0 (d + c) f ≡ any O 0 c (λ k. f (d + k))
    unfolding any
    any_skip f d zero h = rw add-zero (any_none f d h)
    any_skip f d (suc c) h = rw add-suc (ap₂ O.or (any_skip f d c h) (ap f (omega arith)))

    pub since_shift :
        (d j : ℕ) (W : ℕ → Bool) (A B : ℕ → V) →
        ((k : ℕ) → k < d → W k ≡ false) →
        since_at O W A B (d + j) ≡ since_at O (λ k. W (d + k)) (λ k. A (d + k)) (λ k. B (d + k)) j
    unfolding since_at
    since_shift d j W A B h =
        let f : ℕ → V = λ k. when O (W k) (O.and (all O (suc k) ((d + j) - k) A) (B k)) in
        let e : suc (d + j) ≡ d + suc j = omega arith in
        ap (λ x. any O 0 x f) e
        ∙ any_skip f d (suc j) (λ k p. ap (λ b. when O b (O.and (all O (suc k) ((d + j) - k) A) (B k))) (h k p))
        ∙ any_rel (equal_kept O) _ _ 0 (suc j) (λ k p q.
        ap (λ x. when O (W (d + k)) (O.and x (B (d + k)))) (all_moved A d (suc k) (j - k) (suc (d + k)) ((d + j) - (d + k)) (omega arith) (omega arith)))

  pub yesterday_shift :
      (d j : ℕ) (W : ℕ → Bool) (A : ℕ → V) →
      ((k : ℕ) → k < d → W k ≡ false) →
      yesterday_at O W A (d + j) ≡ yesterday_at O (λ k. W (d + k)) (λ k. A (d + k)) j
  unfolding yesterday_at
  yesterday_shift zero zero W A h = refl
  yesterday_shift (suc d) zero W A h = rw add-zero (ap (λ b. when O b (A d)) (h d (omega arith)))
  yesterday_shift d (suc j) W A h = rw add-suc refl
