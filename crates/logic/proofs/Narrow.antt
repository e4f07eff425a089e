-- More samples narrow the ends, and the low end is below the high end. Assumes nothing.
use Rattle.std.proofs.Common.{◌≡◌, ℕ, suc, ◌+◌, ◌-◌, ◌<◌, ◌≤◌, Bool, T, ltb, leb, refl, arith, le→leb, ltb→lt, lt→ltb}
use Rattle.scale.specs.Laws.{Ops, Laws, Below}
use Rattle.logic.specs.Values.{when, all}
use Rattle.logic.specs.Trace.{Trace, newest, Rising, within}
use Rattle.logic.specs.Formula.{Formula, truth, level, neg, either, both, next, yesterday, until, since}
use Rattle.logic.specs.Meaning.{Ends, ends, until_at}
use Rattle.scale.proofs.Lattice.{below_refl, below_trans, below_best, worst_below, or_left, or_right, or_both, or_mono, and_mono, turn_mono}
use Rattle.logic.proofs.Rows.{below_kept, until_rel, since_rel, yesterday_rel, all_rel, when_rel, cond_rel, cond_step, when_below, below_when, until_longer, until_upto, all_shorter}
use Rattle.logic.proofs.Windows.{gap, rising}

-- the first n samples
abbrev pub first : ℕ → Trace → Trace
first n τ = record { size = n; stamp = τ.stamp; code = τ.code }

module _ {V : Type 0} {O : Ops V} (L : Laws O) (read : ℕ → ℕ → V) (τ : Trace) (up : Rising τ) (n : ℕ) (less : n ≤ τ.size) where
  abbrev t : ℕ → ℕ
  t = τ.stamp

  abbrev old : Formula → ℕ → Ends V
  old = ends O read (first n τ)

  abbrev new : Formula → ℕ → Ends V
  new = ends O read τ

  abbrev Narrows : Formula → ℕ → Type 0
  Narrows φ j = Below O (old φ j).low (new φ j).low × Below O (new φ j).high (old φ j).high

  abbrev Narrowed : Formula → Type 0
  Narrowed φ = (j : ℕ) → j < n → Narrows φ j

  next_narrowed : (lo hi : ℕ) (A : Formula) → Narrowed A → Narrowed (next lo hi A)
  unfolding ends
  next_narrowed lo hi A a j p =
      let K = below_kept L in
      let more : T (ltb (suc j) n) → T (ltb (suc j) τ.size) = λ b. let l = ltb→lt _ _ b in lt→ltb _ _ (omega arith) in (
        when_below L (ltb (suc j) n) (λ b. below_when L (ltb (suc j) τ.size) (more b) (when_rel K _ (λ w. (a (suc j) (ltb→lt _ _ b)).0))),
        cond_step L (ltb (suc j) n) (ltb (suc j) τ.size) more
            (λ b. when_rel K _ (λ w. (a (suc j) (ltb→lt _ _ b)).1))
            (λ b c. when_below L (within t lo hi j (suc j)) (λ w.
            let g = gap t lo hi j (suc j) w in
            let r = up j (suc j) (omega arith) (ltb→lt _ _ b) in
            below_when L (leb 1 hi) (le→leb 1 hi (omega arith)) (below_best L _))),
      )

  until_narrowed : (lo hi : ℕ) (A B : Formula) → Narrowed A → Narrowed B → Narrowed (until lo hi A B)
  unfolding ends
  until_narrowed lo hi A B a b j p =
      let K = below_kept L in
      let U : V = until_at O n (within t lo hi j) (λ k. (old A k).high) (λ k. (old B k).high) j in
      let X : V = all O j (n - j) (λ k. (old A k).high) in
      let wide : Bool = ltb (t (n - 1)) (t j + hi) in
      let A-high : (c : ℕ) → c ≡ n - j → Below O (all O j c (λ k. (new A k).high)) (all O j c (λ k. (old A k).high)) = λ c e.
      all_rel K _ _ j c (λ k s r. (a k (omega arith)).1) in
      let into : t (n - 1) < t j + hi → Below O (all O j (n - j) (λ k. (new A k).high)) (O.or U (when O wide X)) = λ l.
      below_trans L (A-high (n - j) refl) (below_trans L (below_when L wide (lt→ltb _ _ l) (below_refl L X)) (or_right L U _)) in (
        below_trans L
            (until_rel K n j (λ k _ _. refl) (λ k s r w. (λ m x y. (a m (omega arith)).0, (b k r).0)))
            (until_longer L n τ.size j _ _ _ (omega arith) less),
        or_both L
            (until_upto L n τ.size j _ _ _ (omega arith) less
            (below_trans L (until_rel K n j (λ k _ _. refl) (λ k s r w. (λ m x y. (a m (omega arith)).1, (b k r).1))) (or_left L U _))
            (λ k s r w.
            let g = gap t lo hi j k w in
            let x = up (n - 1) k (omega arith) r in
            let y = rising τ up j (n - 1) (omega arith) (omega arith) in
            into (omega arith)))
            (when_below L (ltb (newest τ) (t j + hi)) (λ w.
            let l = ltb→lt (newest τ) (t j + hi) w in
            let x = rising τ up (n - 1) (τ.size - 1) (omega arith) (omega arith) in
            below_trans L (all_shorter L _ j (n - j) (τ.size - j) (omega arith)) (into (omega arith)))),
      )

  pub narrowed : (φ : Formula) → Narrowed φ
  unfolding ends
  narrowed truth j p = (below_refl L _, below_refl L _)
  narrowed (level ch lv) j p = (below_refl L _, below_refl L _)
  narrowed (neg A) j p = let a = narrowed A j p in (turn_mono L a.1, turn_mono L a.0)
  narrowed (either A B) j p =
      let a = narrowed A j p in
      let b = narrowed B j p in
      (or_mono L a.0 b.0, or_mono L a.1 b.1)
  narrowed (both A B) j p =
      let a = narrowed A j p in
      let b = narrowed B j p in
      (and_mono L a.0 b.0, and_mono L a.1 b.1)
  narrowed (next lo hi A) j p = next_narrowed lo hi A (narrowed A) j p
  narrowed (yesterday lo hi A) j p =
      let K = below_kept L in (
        yesterday_rel K j (λ k _. refl) (λ k s w. (narrowed A k (omega arith)).0),
        yesterday_rel K j (λ k _. refl) (λ k s w. (narrowed A k (omega arith)).1),
      )
  narrowed (until lo hi A B) j p = until_narrowed lo hi A B (narrowed A) (narrowed B) j p
  narrowed (since lo hi A B) j p =
      let K = below_kept L in (
        since_rel K j (λ k _. refl) (λ k s w. (λ m x y. (narrowed A m (omega arith)).0, (narrowed B k (omega arith)).0)),
        since_rel K j (λ k _. refl) (λ k s w. (λ m x y. (narrowed A m (omega arith)).1, (narrowed B k (omega arith)).1)),
      )

module _ {V : Type 0} {O : Ops V} (L : Laws O) (read : ℕ → ℕ → V) (σ : Trace) where
  -- no matter how the stamps run
  pub ordered : (φ : Formula) (j : ℕ) → Below O (ends O read σ φ j).low (ends O read σ φ j).high
  unfolding ends
  ordered truth j = below_refl L _
  ordered (level ch lv) j = below_refl L _
  ordered (neg A) j = turn_mono L (ordered A j)
  ordered (either A B) j = or_mono L (ordered A j) (ordered B j)
  ordered (both A B) j = and_mono L (ordered A j) (ordered B j)
  ordered (next lo hi A) j =
      let K = below_kept L in
      cond_rel K (ltb (suc j) σ.size) (λ b. when_rel K (within σ.stamp lo hi j (suc j)) (λ w. ordered A (suc j))) (λ b. worst_below L (when O (leb 1 hi) O.best))
  ordered (yesterday lo hi A) j = yesterday_rel (below_kept L) j (λ k _. refl) (λ k s w. ordered A k)
  ordered (until lo hi A B) j =
      below_trans L (until_rel (below_kept L) σ.size j (λ k _ _. refl) (λ k s r w. (λ m x y. ordered A m, ordered B k))) (or_left L _ _)
  ordered (since lo hi A B) j = since_rel (below_kept L) j (λ k _. refl) (λ k s w. (λ m x y. ordered A m, ordered B k))
