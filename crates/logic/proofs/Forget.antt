-- What lies farther back than the reach may be left out. Assumes nothing.
use Rattle.std.proofs.Common.{◌≡◌, ℕ, suc, ◌+◌, ◌-◌, ◌<◌, ◌≤◌, max, Bool, false, T, ltb, refl, ap, ◌∙◌, ap₂, add-suc, arith, ltb→lt}
use Rattle.scale.specs.Laws.{Ops, Laws}
use Rattle.logic.specs.Trace.{Trace, newest, within}
use Rattle.logic.specs.Formula.{Formula, truth, level, neg, either, both, next, yesterday, until, since, reach}
use Rattle.logic.specs.Meaning.{ends}
use Rattle.logic.proofs.Rows.{equal_kept, until_rel, since_rel, yesterday_rel, all_rel, when_rel, when_rel₂, cond_rel}
use Rattle.logic.proofs.Shift.{until_shift, since_shift, yesterday_shift, all_shift}
use Rattle.logic.proofs.Windows.{gap, none_within, lt_shift}

-- τ is σ without its first d samples, and the stamps of τ do not fall
pub record Tail (d : ℕ) (σ τ : Trace) : Type 0 where
  pub sizes : σ.size ≡ d + τ.size
  pub stamps : (k : ℕ) → k < τ.size → σ.stamp (d + k) ≡ τ.stamp k
  pub codes : (k ch : ℕ) → k < τ.size → σ.code (d + k) ch ≡ τ.code k ch
  pub up : (a b : ℕ) → a ≤ b → b < τ.size → τ.stamp a ≤ τ.stamp b

module _ {V : Type 0} {O : Ops V} (L : Laws O) (read : ℕ → ℕ → V) (d : ℕ) (σ τ : Trace) (G : Tail d σ τ) where
  abbrev Same : Formula → ℕ → Type 0
  Same φ j = ((ends O read σ φ (d + j)).low ≡ (ends O read τ φ j).low) × ((ends O read σ φ (d + j)).high ≡ (ends O read τ φ j).high)

  -- every sample before d is more than r older than τ's j
  abbrev Clear : ℕ → ℕ → Type 0
  Clear r j = (q : ℕ) → q < d → σ.stamp q + r < τ.stamp j

  abbrev Found : Formula → Type 0
  Found φ = (j : ℕ) → j < τ.size → Clear (reach φ) j → Same φ j

  windows : (lo hi j k : ℕ) → j < τ.size → k < τ.size → within σ.stamp lo hi (d + j) (d + k) ≡ within τ.stamp lo hi j k
  unfolding within
  windows lo hi j k p q = rw (G.stamps j p, G.stamps k q) refl

  -- no window reaches back over d
  none_back : (lo hi r j k : ℕ) → j < τ.size → Clear (hi + r) j → k < d → within σ.stamp lo hi k (d + j) ≡ false
  none_back lo hi r j k p C l =
      let e = G.stamps j p in
      let c = C k l in
      none_within σ.stamp lo hi k (d + j) (omega arith)

  next_found : (lo hi : ℕ) (A : Formula) → Found A → Found (next lo hi A)
  unfolding ends
  next_found lo hi A a j p C =
      let K = equal_kept O in
      let more : Bool = ltb (d + suc j) (d + τ.size) in
      let W : T more → within σ.stamp lo hi (d + j) (d + suc j) ≡ within τ.stamp lo hi j (suc j) = λ b.
      let l = ltb→lt (d + suc j) (d + τ.size) b in
      windows lo hi j (suc j) p (omega arith) in
      let at : T more → Same A (suc j) = λ b.
      let l = ltb→lt (d + suc j) (d + τ.size) b in
      let u = G.up j (suc j) (omega arith) (omega arith) in
      a (suc j) (omega arith) (λ q s. let c = C q s in omega arith) in
      rw (G.sizes, ← add-suc d j, ← lt_shift d (suc j) τ.size) (
        when_rel K more (λ b. when_rel₂ K (W b) (λ w. (at b).0)),
        cond_rel K more (λ b. when_rel₂ K (W b) (λ w. (at b).1)) (λ b. refl),
      )

  until_found : (lo hi : ℕ) (A B : Formula) → Found A → Found B → Found (until lo hi A B)
  unfolding ends
  until_found lo hi A B a b j p C =
      let K = equal_kept O in
      let W = λ (k : ℕ) (l : j ≤ k) (r : k < τ.size). windows lo hi j k p r in
      let at : (k : ℕ) → j ≤ k → k < τ.size → Same A k × Same B k = λ k l r.
      let u = G.up j k l r in
      (a k r (λ q s. let c = C q s in omega arith), b k r (λ q s. let c = C q s in omega arith)) in
      let last : σ.stamp (d + τ.size - 1) ≡ newest τ =
      let e : d + τ.size - 1 ≡ d + (τ.size - 1) = omega arith in
      ap σ.stamp e ∙ G.stamps (τ.size - 1) (omega arith) in
      let wide : ltb (σ.stamp (d + τ.size - 1)) (σ.stamp (d + j) + hi) ≡ ltb (newest τ) (τ.stamp j + hi) = rw (G.stamps j p, last) refl in
      let count : (d + τ.size) - (d + j) ≡ τ.size - j = omega arith in
      rw G.sizes (
        until_shift O d τ.size j _ _ _
            ∙ until_rel K τ.size j W (λ k l r w. (λ m x y. (at m x (omega arith)).0.0, (at k l r).1.0)),
        ap₂ O.or
            (until_shift O d τ.size j _ _ _
            ∙ until_rel K τ.size j W (λ k l r w. (λ m x y. (at m x (omega arith)).0.1, (at k l r).1.1)))
            (when_rel₂ K wide (λ w.
            rw count (all_shift O _ d j (τ.size - j) ∙ all_rel K _ _ j (τ.size - j) (λ k l r. (at k l (omega arith)).0.1)))),
      )

  since_found : (lo hi : ℕ) (A B : Formula) → Found A → Found B → Found (since lo hi A B)
  unfolding ends
  since_found lo hi A B a b j p C =
      let K = equal_kept O in
      let N = λ (k : ℕ) (l : k < d). none_back lo hi (max (reach A) (reach B)) j k p C l in
      let W = λ (k : ℕ) (l : k ≤ j). windows lo hi k j (omega arith) p in
      let at : (k : ℕ) → k ≤ j → T (within σ.stamp lo hi (d + k) (d + j)) → ((m : ℕ) → k < m → m ≤ j → Same A m) × Same B k = λ k l w.
      let g = gap σ.stamp lo hi (d + k) (d + j) w in
      let e = G.stamps k (omega arith) in
      let f = G.stamps j p in (
        λ m x y. let r = G.up k m (omega arith) (omega arith) in a m (omega arith) (λ q s. let c = C q s in omega arith),
        b k (omega arith) (λ q s. let c = C q s in omega arith),
      ) in (
        since_shift O L d j _ _ _ N ∙ since_rel K j W (λ k l w. let r = at k l w in (λ m x y. (r.0 m x y).0, r.1.0)),
        since_shift O L d j _ _ _ N ∙ since_rel K j W (λ k l w. let r = at k l w in (λ m x y. (r.0 m x y).1, r.1.1)),
      )

  yesterday_found : (lo hi : ℕ) (A : Formula) → Found A → Found (yesterday lo hi A)
  unfolding ends
  yesterday_found lo hi A a j p C =
      let K = equal_kept O in
      let N = λ (k : ℕ) (l : k < d). none_back lo hi (reach A) j k p C l in
      let W = λ (k : ℕ) (e : suc k ≡ j). windows lo hi k j (omega arith) p in
      let at : (k : ℕ) → suc k ≡ j → T (within σ.stamp lo hi (d + k) (d + j)) → Same A k = λ k l w.
      let g = gap σ.stamp lo hi (d + k) (d + j) w in
      let e = G.stamps k (omega arith) in
      let f = G.stamps j p in
      a k (omega arith) (λ q s. let c = C q s in omega arith) in (
        yesterday_shift O d j _ _ N ∙ yesterday_rel K j W (λ k e w. (at k e w).0),
        yesterday_shift O d j _ _ N ∙ yesterday_rel K j W (λ k e w. (at k e w).1),
      )

  pub found : (φ : Formula) → Found φ
  unfolding ends
  found truth j p C = (refl, refl)
  found (level ch lv) j p C = let e = ap (λ x. read x lv) (G.codes j ch p) in (e, e)
  found (neg A) j p C = let a = found A j p C in (ap O.turned a.1, ap O.turned a.0)
  found (either A B) j p C =
      let a = found A j p (λ q s. let c = C q s in omega arith) in
      let b = found B j p (λ q s. let c = C q s in omega arith) in
      (ap₂ O.or a.0 b.0, ap₂ O.or a.1 b.1)
  found (both A B) j p C =
      let a = found A j p (λ q s. let c = C q s in omega arith) in
      let b = found B j p (λ q s. let c = C q s in omega arith) in
      (ap₂ O.and a.0 b.0, ap₂ O.and a.1 b.1)
  found (next lo hi A) j p C = next_found lo hi A (found A) j p C
  found (yesterday lo hi A) j p C = yesterday_found lo hi A (found A) j p C
  found (until lo hi A B) j p C = until_found lo hi A B (found A) (found B) j p C
  found (since lo hi A B) j p C = since_found lo hi A B (found A) (found B) j p C
