-- What holds of rows of values, term by term. Assumes nothing.
use Rattle.std.proofs.Common.{◌≡◌, ℕ, zero, suc, ◌+◌, ◌-◌, ◌<◌, ◌≤◌, Bool, true, false, cond, T, refl, subst, ap₂, add-zero, add-suc, arith}
use Rattle.scale.specs.Laws.{Ops, Laws, Below}
use Rattle.logic.specs.Values.{when, any, all}
use Rattle.logic.specs.Meaning.{until_at, since_at, yesterday_at}
use Rattle.scale.proofs.Lattice.{below_refl, below_trans, or_mono, and_mono, or_left, or_both, and_left, worst_below}

-- a relation that or and and keep
pub record Kept {V : Type 0} (O : Ops V) (R : V → V → Type 0) : Type 0 where
  pub by_or : {a b c d : V} → R a b → R c d → R (O.or a c) (O.or b d)
  pub by_and : {a b c d : V} → R a b → R c d → R (O.and a c) (O.and b d)
  pub by_worst : R O.worst O.worst
  pub by_best : R O.best O.best

pub equal_kept : {V : Type 0} (O : Ops V) → Kept O (λ a b. a ≡ b)
equal_kept O = record { by_or = λ p q. ap₂ O.or p q; by_and = λ p q. ap₂ O.and p q; by_worst = refl; by_best = refl }

pub below_kept : {V : Type 0} {O : Ops V} → Laws O → Kept O (Below O)
below_kept L = record { by_or = or_mono L; by_and = and_mono L; by_worst = below_refl L _; by_best = below_refl L _ }

module _ {V : Type 0} {O : Ops V} {R : V → V → Type 0} (K : Kept O R) where
  pub when_rel : (b : Bool) {v w : V} → (T b → R v w) → R (when O b v) (when O b w)
  when_rel true h = h tt
  when_rel false h = K.by_worst

  pub cond_rel : (b : Bool) {v w x y : V} → (T b → R v w) → ((T b → ⊥) → R x y) → R (cond b v x) (cond b w y)
  cond_rel true h i = h tt
  cond_rel false h i = i (λ t. t)

  pub when_rel₂ : {b b' : Bool} {v w : V} → b ≡ b' → (T b → R v w) → R (when O b v) (when O b' w)
  when_rel₂ {b} {b'} {v} {w} e h = subst (λ x. R (when O b v) (when O x w)) e (when_rel b h)

  pub any_rel : (f g : ℕ → V) (j c : ℕ) → ((k : ℕ) → j ≤ k → k < j + c → R (f k) (g k)) → R (any O j c f) (any O j c g)
  unfolding any
  any_rel f g j zero h = K.by_worst
  any_rel f g j (suc c) h = K.by_or (any_rel f g j c (λ k p q. h k p (omega arith))) (h (j + c) (omega arith) (omega arith))

  pub all_rel : (f g : ℕ → V) (j c : ℕ) → ((k : ℕ) → j ≤ k → k < j + c → R (f k) (g k)) → R (all O j c f) (all O j c g)
  unfolding all
  all_rel f g j zero h = K.by_best
  all_rel f g j (suc c) h = K.by_and (all_rel f g j c (λ k p q. h k p (omega arith))) (h (j + c) (omega arith) (omega arith))

  pub until_rel :
      (n j : ℕ) {W W' : ℕ → Bool} {A A' B B' : ℕ → V} →
      ((k : ℕ) → j ≤ k → k < n → W k ≡ W' k) →
      ((k : ℕ) → j ≤ k → k < n → T (W k) → ((m : ℕ) → j ≤ m → m < k → R (A m) (A' m)) × R (B k) (B' k)) →
      R (until_at O n W A B j) (until_at O n W' A' B' j)
  unfolding until_at
  until_rel n j {W} {W'} {A} {A'} {B} {B'} same h =
      any_rel _ _ j (n - j) (λ k p q.
      when_rel₂ (same k p (omega arith)) (λ w.
      let r = h k p (omega arith) w in
      K.by_and (all_rel A A' j (k - j) (λ m s t. r.0 m s (omega arith))) r.1))

  pub since_rel :
      (j : ℕ) {W W' : ℕ → Bool} {A A' B B' : ℕ → V} →
      ((k : ℕ) → k ≤ j → W k ≡ W' k) →
      ((k : ℕ) → k ≤ j → T (W k) → ((m : ℕ) → k < m → m ≤ j → R (A m) (A' m)) × R (B k) (B' k)) →
      R (since_at O W A B j) (since_at O W' A' B' j)
  unfolding since_at
  since_rel j {W} {W'} {A} {A'} {B} {B'} same h =
      any_rel _ _ 0 (suc j) (λ k p q.
      when_rel₂ (same k (omega arith)) (λ w.
      let r = h k (omega arith) w in
      K.by_and (all_rel A A' (suc k) (j - k) (λ m s t. r.0 m s (omega arith))) r.1))

  pub yesterday_rel :
      (j : ℕ) {W W' : ℕ → Bool} {A A' : ℕ → V} →
      ((k : ℕ) → suc k ≡ j → W k ≡ W' k) →
      ((k : ℕ) → suc k ≡ j → T (W k) → R (A k) (A' k)) →
      R (yesterday_at O W A j) (yesterday_at O W' A' j)
  unfolding yesterday_at
  yesterday_rel zero same h = K.by_worst
  yesterday_rel (suc j) same h = when_rel₂ (same j refl) (h j refl)

module _ {V : Type 0} {O : Ops V} (L : Laws O) where
  pub when_off : (b : Bool) (v : V) → (T b → ⊥) → when O b v ≡ O.worst
  when_off true v h = absurd (h tt)
  when_off false v h = refl

  pub when_below : (b : Bool) {v u : V} → (T b → Below O v u) → Below O (when O b v) u
  when_below true h = h tt
  when_below false {u = u} h = worst_below L u

  pub below_when : (b : Bool) {v u : V} → T b → Below O u v → Below O u (when O b v)
  below_when true t h = h
  below_when false t h = absurd t

  -- every term is below u
  pub any_below : (f : ℕ → V) (u : V) (j c : ℕ) → ((k : ℕ) → j ≤ k → k < j + c → Below O (f k) u) → Below O (any O j c f) u
  unfolding any
  any_below f u j zero h = worst_below L u
  any_below f u j (suc c) h = or_both L (any_below f u j c (λ k p q. h k p (omega arith))) (h (j + c) (omega arith) (omega arith))

  -- more terms: a greater or, a smaller and
  pub any_longer : (f : ℕ → V) (j c d : ℕ) → Below O (any O j c f) (any O j (c + d) f)
  unfolding any
  any_longer f j c zero = rw add-zero (below_refl L _)
  any_longer f j c (suc d) = rw add-suc (below_trans L (any_longer f j c d) (or_left L _ (f (j + (c + d)))))

  pub all_longer : (f : ℕ → V) (j c d : ℕ) → Below O (all O j (c + d) f) (all O j c f)
  unfolding all
  all_longer f j c zero = rw add-zero (below_refl L _)
  all_longer f j c (suc d) = rw add-suc (below_trans L (and_left L _ (f (j + (c + d)))) (all_longer f j c d))

  pub all_shorter : (f : ℕ → V) (j c d : ℕ) → c ≤ d → Below O (all O j d f) (all O j c f)
  all_shorter f j c d h = let e : c + (d - c) ≡ d = omega arith in subst (λ x. Below O (all O j x f) (all O j c f)) e (all_longer f j c (d - c))

  pub any_upto : (f : ℕ → V) (u : V) (j c d : ℕ) → Below O (any O j c f) u → ((k : ℕ) → j + c ≤ k → k < j + (c + d) → Below O (f k) u) → Below O (any O j (c + d) f) u
  unfolding any
  any_upto f u j c zero b h = rw add-zero b
  any_upto f u j c (suc d) b h =
      rw add-suc (or_both L (any_upto f u j c d b (λ k p q. h k p (omega arith))) (h (j + (c + d)) (omega arith) (omega arith)))

  pub until_longer : (n m j : ℕ) (W : ℕ → Bool) (A B : ℕ → V) → j ≤ n → n ≤ m → Below O (until_at O n W A B j) (until_at O m W A B j)
  unfolding until_at
  until_longer n m j W A B p q =
      let e : (n - j) + (m - n) ≡ m - j = omega arith in
      let f : ℕ → V = λ k. when O (W k) (O.and (all O j (k - j) A) (B k)) in
      subst (λ x. Below O (any O j (n - j) f) (any O j x f)) e (any_longer f j (n - j) (m - n))

  -- the longer until is below u, if the shorter is, and the and of A over the shorter row is where a later k is in the window
  pub until_upto :
      (n m j : ℕ) (W : ℕ → Bool) (A B : ℕ → V) {u : V} →
      j ≤ n →
      n ≤ m →
      Below O (until_at O n W A B j) u →
      ((k : ℕ) → n ≤ k → k < m → T (W k) → Below O (all O j (n - j) A) u) →
      Below O (until_at O m W A B j) u
  unfolding until_at
  until_upto n m j W A B {u} p q b h =
      let e : (n - j) + (m - n) ≡ m - j = omega arith in
      let f : ℕ → V = λ k. when O (W k) (O.and (all O j (k - j) A) (B k)) in
      subst (λ x. Below O (any O j x f) u) e (any_upto f u j (n - j) (m - n) b (λ k s t.
      when_below (W k) (λ w.
      below_trans L (and_left L _ _) (below_trans L (all_shorter A j (n - j) (k - j) (omega arith)) (h k (omega arith) (omega arith) w)))))

  pub cond_step : (b b' : Bool) {u v x : V} → (T b → T b') → (T b → Below O u v) → (T b' → (T b → ⊥) → Below O u x) → Below O (cond b' u x) (cond b v x)
  cond_step true true h i k = i tt
  cond_step true false h i k = absurd (h tt)
  cond_step false true h i k = k tt (λ t. t)
  cond_step false false h i k = below_refl L _
