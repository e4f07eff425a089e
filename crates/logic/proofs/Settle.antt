-- The ends meet once the wait is over. Assumes nothing.
use Rattle.std.proofs.Common.{◌≡◌, ℕ, suc, ◌+◌, ◌-◌, ◌<◌, ◌≤◌, T, ltb, leb, refl, ap, ◌∙◌, ap₂, arith, ltb→lt, leb→le}
use Rattle.scale.specs.Laws.{Ops, Laws}
use Rattle.logic.specs.Trace.{Trace, newest, Rising, within}
use Rattle.logic.specs.Formula.{Formula, truth, level, neg, either, both, next, yesterday, until, since, wait}
use Rattle.logic.specs.Meaning.{plain, ends}
use Rattle.scale.proofs.Lattice.{or-worst}
use Rattle.logic.proofs.Rows.{equal_kept, until_rel, since_rel, yesterday_rel, when_rel, cond_rel, when_off}
use Rattle.logic.proofs.Windows.{gap, rising, not_lt}

module _ {V : Type 0} {O : Ops V} (L : Laws O) (read : ℕ → ℕ → V) (σ : Trace) (up : Rising σ) where
  abbrev Same : Formula → ℕ → Type 0
  Same φ j = ((ends O read σ φ j).low ≡ plain O read σ φ j) × ((ends O read σ φ j).high ≡ plain O read σ φ j)

  -- the operands of φ are settled wherever their wait is over
  abbrev Settled : Formula → Type 0
  Settled φ = (j : ℕ) → j < σ.size → σ.stamp j + wait φ ≤ newest σ → Same φ j

  next_settled : (lo hi : ℕ) (A : Formula) → Settled A → Settled (next lo hi A)
  unfolding plain ends
  next_settled lo hi A a j p q =
      let K = equal_kept O in
      let at : T (ltb (suc j) σ.size) → T (within σ.stamp lo hi j (suc j)) → Same A (suc j) = λ t w.
      let l = ltb→lt _ _ t in
      let g = gap σ.stamp lo hi j (suc j) w in
      a (suc j) l (omega arith) in
      let more : (T (ltb (suc j) σ.size) → ⊥) → T (leb 1 hi) → ⊥ = λ t w.
      let l = leb→le _ _ w in
      let n = not_lt _ _ t in
      let e : j ≡ σ.size - 1 = omega arith in
      let f : σ.stamp j ≡ newest σ = ap σ.stamp e in
      omega arith in (
        when_rel K _ (λ t. when_rel K _ (λ w. (at t w).0)),
        cond_rel K _ (λ t. when_rel K _ (λ w. (at t w).1)) (λ t. when_off L _ _ (more t)),
      )

  until_settled : (lo hi : ℕ) (A B : Formula) → Settled A → Settled B → Settled (until lo hi A B)
  unfolding plain ends
  until_settled lo hi A B a b j p q =
      let K = equal_kept O in
      let at : (k : ℕ) → j ≤ k → k < σ.size → T (within σ.stamp lo hi j k) → ((m : ℕ) → j ≤ m → m < k → Same A m) × Same B k = λ k s t w.
      let g = gap σ.stamp lo hi j k w in
      (λ m x y. let r = rising σ up m k (omega arith) t in a m (omega arith) (omega arith), b k t (omega arith)) in (
        until_rel K σ.size j (λ k _ _. refl) (λ k s t w. let r = at k s t w in (λ m x y. (r.0 m x y).0, r.1.0)),
        (ap₂ O.or
            (until_rel K σ.size j (λ k _ _. refl) (λ k s t w. let r = at k s t w in (λ m x y. (r.0 m x y).1, r.1.1)))
            (when_off L (ltb (newest σ) (σ.stamp j + hi)) _ (λ w. let l = ltb→lt _ _ w in omega arith)))
            ∙ or-worst L _,
      )

  since_settled : (lo hi : ℕ) (A B : Formula) → Settled A → Settled B → Settled (since lo hi A B)
  unfolding plain ends
  since_settled lo hi A B a b j p q =
      let K = equal_kept O in
      let at : (k : ℕ) → k ≤ j → Same B k = λ k s. let r = rising σ up k j s p in b k (omega arith) (omega arith) in
      let ats : (k : ℕ) → k ≤ j → Same A k = λ k s. let r = rising σ up k j s p in a k (omega arith) (omega arith) in (
        since_rel K j (λ k _. refl) (λ k s w. (λ m x y. (ats m y).0, (at k s).0)),
        since_rel K j (λ k _. refl) (λ k s w. (λ m x y. (ats m y).1, (at k s).1)),
      )

  yesterday_settled : (lo hi : ℕ) (A : Formula) → Settled A → Settled (yesterday lo hi A)
  unfolding plain ends
  yesterday_settled lo hi A a j p q =
      let K = equal_kept O in
      let at : (k : ℕ) → suc k ≡ j → Same A k = λ k s. let r = rising σ up k j (omega arith) p in a k (omega arith) (omega arith) in (
        yesterday_rel K j (λ k _. refl) (λ k s w. (at k s).0),
        yesterday_rel K j (λ k _. refl) (λ k s w. (at k s).1),
      )

  pub settled : (φ : Formula) → Settled φ
  unfolding plain ends
  settled truth j p q = (refl, refl)
  settled (level ch lv) j p q = (refl, refl)
  settled (neg A) j p q = let a = settled A j p q in (ap O.turned a.1, ap O.turned a.0)
  settled (either A B) j p q =
      let a = settled A j p (omega arith) in
      let b = settled B j p (omega arith) in
      (ap₂ O.or a.0 b.0, ap₂ O.or a.1 b.1)
  settled (both A B) j p q =
      let a = settled A j p (omega arith) in
      let b = settled B j p (omega arith) in
      (ap₂ O.and a.0 b.0, ap₂ O.and a.1 b.1)
  settled (next lo hi A) j p q = next_settled lo hi A (settled A) j p q
  settled (yesterday lo hi A) j p q = yesterday_settled lo hi A (settled A) j p q
  settled (until lo hi A B) j p q = until_settled lo hi A B (settled A) (settled B) j p q
  settled (since lo hi A B) j p q = since_settled lo hi A B (settled A) (settled B) j p q
