-- How the held positions change. Assumes nothing.
use Rattle.std.proofs.Common.{◌≡◌, ℕ, suc, ◌+◌, ◌-◌, ◌<◌, ◌≤◌, true, ltb, leb, ◌⊎◌, List, [], ◌∷◌, ◌++◌, length, refl, ap, inl, inr, arith, length-append}
use lib.ListN.{get_or-append}
use Rattle.std.proofs.lemmas.Bool.{and_parts, and_from, or_cases, or_left, or_right, ltb-true, leb-true, lt-ltb, le-ltb, le-leb, lt-leb, cases_lt}
use Rattle.logic.proofs.Windows.{rising}
use Rattle.logic.specs.Formula.{Formula, span}
use Rattle.logic.specs.Trace.{blank, trace, newest, Rising}
use Rattle.sample.specs.declared.row.SampleRow.{SampleRow}
use Rattle.world.proofs.Tallies.{crowd, many_fewer, many_next, many_less}
use Rattle.world.specs.Steps.{held_of, many, stamp_at}

-- what a held position is, and how one is
pub held_is : (A : Formula) (σ : List SampleRow) (k j : ℕ) → held_of A σ k j ≡ true → (j < length σ) × ((k ≤ j) ⊎ (newest (trace σ) < stamp_at σ j + span A))
unfolding held_of
held_is A σ k j h =
    let a = and_parts (ltb j (length σ)) _ h in (
      ltb-true j (length σ) a.0,
      elim (or_cases (leb k j) (ltb (newest (trace σ)) (stamp_at σ j + span A)) a.1) [
        | inl x ↦ inl (leb-true k j x)
        | inr x ↦ inr (ltb-true (newest (trace σ)) (stamp_at σ j + span A) x)
      ],
    )

pub is_held : (A : Formula) (σ : List SampleRow) (k j : ℕ) → j < length σ → (k ≤ j) ⊎ (newest (trace σ) < stamp_at σ j + span A) → held_of A σ k j ≡ true
unfolding held_of
is_held A σ k j l (inl x) = and_from _ _ (lt-ltb j (length σ) l) (or_left _ _ (le-leb k j x))
is_held A σ k j l (inr x) = and_from _ _ (lt-ltb j (length σ) l) (or_right _ _ (lt-ltb _ _ x))

pub held_none : (A : Formula) (σ : List SampleRow) (k c : ℕ) → length σ ≡ 0 → many (held_of A σ k) (length σ) ≤ c
unfolding many
held_none A σ k c e = rw e (omega arith)

pub held_take : (A : Formula) (σ : List SampleRow) (k : ℕ) → many (held_of A σ (suc k)) (length σ) ≤ many (held_of A σ k) (length σ)
held_take A σ k = many_fewer _ _ (length σ) λ j l h. is_held A σ k j l (elim (held_is A σ (suc k) j h).1 [ inl x ↦ inl (omega arith) | inr x ↦ inr x ])

-- a sample more leaves the stamps that were there
pub stamp_old : (σ more : List SampleRow) (j : ℕ) → j < length σ → stamp_at (σ ++ more) j ≡ stamp_at σ j
stamp_old σ more j l = ap (λ x. x.stamp) (get_or-append σ more blank j l)

pub held_draw : (A : Formula) (σ : List SampleRow) (x : SampleRow) (k : ℕ) → Rising (trace (σ ++ x ∷ [])) → many (held_of A (σ ++ x ∷ []) k) (length (σ ++ x ∷ [])) ≤ suc (many (held_of A σ k) (length σ))
held_draw A σ x k up =
    let n = length-append σ (x ∷ []) in
    let m = many_next (held_of A (σ ++ x ∷ []) k) (length σ) in
    let f = many_fewer (held_of A (σ ++ x ∷ []) k) (held_of A σ k) (length σ) λ j l h. is_held A σ k j l (elim (held_is A (σ ++ x ∷ []) k j h).1 [
      | inl y ↦ inl y
      | inr y ↦ inr (
          let a = stamp_old σ (x ∷ []) j l in
          let b = stamp_old σ (x ∷ []) (length σ - 1) (omega arith) in
          let r = rising (trace (σ ++ x ∷ [])) up (length σ - 1) (length (σ ++ x ∷ []) - 1) (omega arith) (omega arith) in
          omega arith)
    ]) in
    rw n (omega arith)

pub held_on : (A : Formula) (σ : List SampleRow) (k i j : ℕ) → Rising (trace σ) → held_of A σ k i ≡ true → i ≤ j → j < length σ → held_of A σ k j ≡ true
held_on A σ k i j up h l r = is_held A σ k j r (elim (held_is A σ k i h).1 [
  | inl x ↦ inl (omega arith)
  | inr x ↦ inr (let u = rising (trace σ) up i j l r in omega arith)
])

-- among more than the span held there is an untaken one, and the oldest is the span older than the newest
pub spread_out : (A : Formula) (σ : List SampleRow) (k : ℕ) → Rising (trace σ) → span A < many (held_of A σ k) (length σ) → (k < length σ) × (stamp_at σ k + span A ≤ newest (trace σ))
spread_out A σ k up more =
    let few : ((j : ℕ) → j < length σ → held_of A σ k j ≡ true → newest (trace σ) < stamp_at σ j + span A) → ⊥ = λ near.
    let m = crowd (stamp_at σ) (held_of A σ k) (suc (newest (trace σ)) - span A) (length σ) (suc (newest (trace σ)))
    up
    (λ j l. let r = rising (trace σ) up j (length σ - 1) (omega arith) (omega arith) in omega arith)
    (λ j l h. let r = near j l h in omega arith) in
    omega arith in
    elim (cases_lt k (length σ)) [
      | inr x ↦ absurd (few λ j l h. elim (held_is A σ k j h).1 [ inl y ↦ absurd (omega arith) | inr y ↦ y ])
      | inl x ↦ elim (cases_lt (newest (trace σ)) (stamp_at σ k + span A)) [
        | inl y ↦ absurd (few λ j l h. elim (held_is A σ k j h).1 [
          | inl z ↦ (let r = rising (trace σ) up k j z l in omega arith)
          | inr z ↦ z
        ])
        | inr y ↦ (x, y)
      ]
    ]

-- taking k, once the newest stamp is the span later, leaves one fewer held
pub one_fewer : (A : Formula) (σ : List SampleRow) (k : ℕ) → k < length σ → stamp_at σ k + span A ≤ newest (trace σ) → suc (many (held_of A σ (suc k)) (length σ)) ≡ many (held_of A σ k) (length σ)
unfolding held_of
one_fewer A σ k l far = many_less (held_of A σ k) (held_of A σ (suc k)) k (length σ) l
    (is_held A σ k k l (inl (omega arith)))
    (rw (lt-ltb k (length σ) l, lt-leb (suc k) k (omega arith), le-ltb (newest (trace σ)) (stamp_at σ k + span A) far) refl)
    (λ j d. elim (cases_lt j k) [
      | inl x ↦ rw (lt-leb k j x, lt-leb (suc k) j (omega arith)) refl
      | inr x ↦ rw (le-leb k j x, le-leb (suc k) j (omega arith)) refl
    ])
