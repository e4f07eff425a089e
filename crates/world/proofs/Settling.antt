-- When positions settle, and that each is counted once, when it does. Assumes nothing.
use Rattle.std.proofs.Common.{◌≡◌, ℕ, suc, ◌+◌, ◌<◌, ◌≤◌, true, not, ◌&&◌, ltb, leb, List, [], ◌∷◌, ◌++◌, length, sym, refl, ap, ◌∙◌, inl, inr, add-zero, add-one, arith, length-append}
use mathlib.Core.Bool.{and-true}
use Rattle.std.proofs.lemmas.Bool.{cases_Bool, cases_lt, and_parts, and_right, lt-ltb, le-ltb, le-leb, eqb-true}
use Rattle.logic.proofs.Lists.{stays_settled}
use Rattle.logic.proofs.Settle as settle
use Rattle.logic.specs.Formula.{Formula}
use Rattle.logic.specs.Theorems.{Waited}
use Rattle.logic.specs.Trace.{trace, Rising}
use Rattle.rule.specs.declared.rule.Rule.{Rule}
use Rattle.sample.specs.Coming.{Coming}
use Rattle.sample.specs.declared.row.SampleRow.{SampleRow}
use Rattle.scale.specs.Laws.{Ops, Laws}
use Rattle.world.proofs.Keep.{Kept, kept_by_move, rising_more}
use Rattle.world.proofs.Moves.{Move, stays, arms, draws_one, takes_one, moves}
use Rattle.world.proofs.Tallies.{many_split, many_below}
use Rattle.world.specs.Law.{counted, settled_count}
use Rattle.world.specs.Steps.{rule_in, accepted, many, next_sample, settled, newly, after, answers}
use Rattle.world.specs.Tests.{arm_fits}
use Rattle.world.specs.World.{Sizes, World}
use Rattle.world.specs.declared.answer.Answer.{Answer}
use Rattle.world.specs.declared.call.Call.{Call}

module _ {V : Type 0} (ops : Ops V) (read : ℕ → ℕ → V) where
  -- what was taken is settled
  abbrev pub Done : World V → Type 0
  Done w = (j : ℕ) → j < w.taken → settled ops read (rule_in w) w.capture j ≡ true

module _ {V : Type 0} {ops : Ops V} (laws : Laws ops) (read : ℕ → ℕ → V) where
  -- both ends are the same once the wait is over
  pub over : (A : Formula) (σ : List SampleRow) (j : ℕ) → Rising (trace σ) → j < length σ → Waited A σ j → settled ops read A σ j ≡ true
  over A σ j up l q =
      let e = settle.settled laws read (trace σ) up A j l q in
      (laws.same_is _ _).1 (e.0 ∙ sym e.1)

  -- what is settled stays so
  pub still : (A : Formula) (σ more : List SampleRow) (j : ℕ) → Rising (trace (σ ++ more)) → j < length σ → settled ops read A σ j ≡ true → settled ops read A (σ ++ more) j ≡ true
  still A σ more j up l e = let f = stays_settled laws read A σ more j up l ((laws.same_is _ _).0 e) in ap (λ x. ops.same x.low x.high) f ∙ e

  -- a draw counts what was not settled before
  pub drawn_total : (w : World V) (x : SampleRow) → Rising (trace (w.capture ++ x ∷ [])) → w.taken ≤ accepted w → Done ops read w → many (settled ops read (rule_in w) (w.capture ++ x ∷ [])) (length (w.capture ++ x ∷ [])) ≡ settled_count ops read w + newly ops read w x
  drawn_total w x up few done =
      let p = settled ops read (rule_in w) (w.capture ++ x ∷ []) in
      let q = settled ops read (rule_in w) w.capture in
      let n = accepted w in
      let len : length (w.capture ++ x ∷ []) ≡ suc n = length-append w.capture (x ∷ []) ∙ add-one n in
      let r = λ (j : ℕ). leb w.taken j && (p j && not (ltb j n && q j)) in
      ap (many p) len
      ∙ many_split p (λ j. ltb j n && q j) r (suc n) (λ j l. elim (cases_lt j n) [
        | inl y ↦ elim (cases_Bool (q j)) [
          | inl z ↦ (
              let here = still (rule_in w) w.capture (x ∷ []) j up y z in
              inl (rw (lt-ltb j n y, z) refl, and_right (leb w.taken j) _ (and_right (p j) _ (rw (lt-ltb j n y, z) refl)), here))
          | inr z ↦ elim (cases_lt j w.taken) [
            | inl t ↦ absurd (cc (done j t, z))
            | inr t ↦ inr (rw (lt-ltb j n y, z) refl, rw (le-leb w.taken j t, lt-ltb j n y, z) (and-true (p j)))
          ]
        ]
        | inr y ↦ inr (rw (le-ltb j n y) refl, rw (le-leb w.taken j (omega arith), le-ltb j n y) (and-true (p j)))
      ])
      ∙ ap (λ k. k + many r (suc n)) (many_below q n)

module _ {V : Type 0} {ops : Ops V} (laws : Laws ops) (read : ℕ → ℕ → V) (s : Sizes) (source : Coming) where
  -- a watch is armed before any sample
  fresh : (rule : Rule) (w : World V) → arm_fits rule s (accepted w) ≡ true → accepted w ≡ 0
  fresh rule w f = eqb-true (accepted w) 0 (and_parts _ _ f).0

  -- a call leaves what was taken settled
  pub done_move : (w : World V) → Kept ops read s source w → Done ops read w → {w' : World V} {a : Answer V} → Move ops read s w w' a → Done ops read w'
  done_move w K done (arms rule e f) = λ j x. let k = K.few in let z = fresh rule w f in absurd (omega arith)
  done_move w K done (draws_one b e f r t) = λ j x. let k = K.few in still laws read (rule_in w) w.capture (next_sample w ∷ []) j (rising_more w.capture (next_sample w) K.up t) (omega arith) (done j x)
  done_move w K done (takes_one b e l t f) = λ j x. elim (cases_lt j w.taken) [
    | inl y ↦ done j y
    | inr y ↦ (let z : w.taken ≡ j = omega arith in rw z at t)
  ]
  done_move w K done _ = done

  pub done : (cs : List Call) (w : World V) → Kept ops read s source w → Done ops read w → Done ops read (after ops read s cs w)
  unfolding after
  done [] w K d = d
  done (c ∷ cs) w K d = let m = moves ops read s c w in done cs _ (kept_by_move laws read s source w K m) (done_move w K d m)

  total_move : (w : World V) → Kept ops read s source w → Done ops read w → {w' : World V} {a : Answer V} → Move ops read s w w' a → (xs : List (Answer V)) → settled_count ops read w' + counted xs ≡ settled_count ops read w + counted (a ∷ xs)
  unfolding counted many
  total_move w K done (stays q) xs = let n = q.no_count xs in omega arith
  total_move w K done (arms rule e f) xs = rw (fresh rule w f) refl
  total_move w K done (draws_one b e f r t) xs =
      let d = drawn_total laws read w (next_sample w) (rising_more w.capture (next_sample w) K.up t) K.few done in
      omega arith
  total_move w K done _ xs = refl

  pub totals : (cs : List Call) (w : World V) → Kept ops read s source w → Done ops read w → settled_count ops read (after ops read s cs w) ≡ settled_count ops read w + counted (answers ops read s cs w)
  unfolding after answers counted
  totals [] w K done = sym (add-zero _)
  totals (c ∷ cs) w K done =
      let m = moves ops read s c w in
      totals cs _ (kept_by_move laws read s source w K m) (done_move w K done m) ∙ total_move w K done m _
