-- What the search for the lowest failing position finds. Assumes nothing.
use Rattle.std.proofs.Common.{◌≡◌, ℕ, zero, suc, ◌+◌, ◌<◌, ◌≤◌, true, false, Some, None, refl, inl, inr, arith}
use Rattle.std.proofs.lemmas.Bool.{cond_both, cases_eq}
use Rattle.logic.specs.Formula.{Formula}
use Rattle.logic.specs.Meaning.{fails_at, lowest_failing}
use Rattle.logic.specs.Trace.{Trace}
use Rattle.scale.specs.Laws.{Ops}

module _ {V : Type 0} (ops : Ops V) (read : ℕ → ℕ → V) (σ : Trace) (A : Formula) where
  -- q fails, is one of c positions from j on, and none before it fails
  pub record Lowest (j c q : ℕ) : Type 0 where
    pub fails : fails_at ops read σ A q ≡ true
    pub from : j ≤ q
    pub below : q < j + c
    pub earlier : (k : ℕ) → j ≤ k → k < q → fails_at ops read σ A k ≡ false

  pub lowest_is : (j c q : ℕ) → lowest_failing ops read σ A j c ≡ Some q → Lowest j c q
  unfolding lowest_failing
  lowest_is j zero q e = absurd cc
  lowest_is j (suc c) q e =
      cond_both (fails_at ops read σ A j) (Some j) (lowest_failing ops read σ A (suc j) c) (λ o. o ≡ Some q → Lowest j (suc c) q)
      (λ f g.
      let x : j ≡ q = cc in
      record { fails = rw x at f; from = omega arith; below = omega arith; earlier = λ k a b. absurd (omega arith) })
      (λ f g.
      let r = lowest_is (suc j) c q g in
      record {
        fails = r.fails;
        from = omega arith;
        below = omega arith;
        earlier = λ k a b. elim (cases_eq k j) [ inl x ↦ rw x f | inr x ↦ r.earlier k (omega arith) b ];
      })
      e

  -- where none is found, none of them fails
  pub lowest_none : (j c : ℕ) → lowest_failing ops read σ A j c ≡ None → (k : ℕ) → j ≤ k → k < j + c → fails_at ops read σ A k ≡ false
  unfolding lowest_failing
  lowest_none j zero e k a b = absurd (omega arith)
  lowest_none j (suc c) e k a b =
      cond_both (fails_at ops read σ A j) (Some j) (lowest_failing ops read σ A (suc j) c) (λ o. o ≡ None → fails_at ops read σ A k ≡ false)
      (λ f g. absurd cc)
      (λ f g. elim (cases_eq k j) [ inl x ↦ rw x f | inr x ↦ lowest_none (suc j) c g k (omega arith) (omega arith) ])
      e

  -- and the other way round
  pub is_lowest : (j c q : ℕ) → Lowest j c q → lowest_failing ops read σ A j c ≡ Some q
  unfolding lowest_failing
  is_lowest j zero q l = absurd (omega arith)
  is_lowest j (suc c) q l = elim (cases_eq j q) [
    | inl x ↦ (let f : fails_at ops read σ A j ≡ true = rw x l.fails in rw (f, x) refl)
    | inr x ↦ rw (l.earlier j (omega arith) (omega arith)) (is_lowest (suc j) c q (record {
      fails = l.fails;
      from = omega arith;
      below = omega arith;
      earlier = λ k a b. l.earlier k (omega arith) b;
    }))
  ]

  pub none_lowest : (j c : ℕ) → ((k : ℕ) → j ≤ k → k < j + c → fails_at ops read σ A k ≡ false) → lowest_failing ops read σ A j c ≡ None
  unfolding lowest_failing
  none_lowest j zero h = refl
  none_lowest j (suc c) h = rw (h j (omega arith) (omega arith)) (none_lowest (suc j) c (λ k a b. h k (omega arith) (omega arith)))
