-- Why the held samples are enough. Assumes nothing.
use Rattle.std.proofs.Common.{◌≡◌, ℕ, ◌+◌, ◌-◌, ◌<◌, ◌≤◌, false, List, [], ◌∷◌, ◌++◌, length, take, drop, sym, ap, ◌∙◌, ap₂, inl, inr, append_assoc, arith, length-append, length-drop, take-append-drop, length-take-le, get_or-append-add}
use Rattle.std.proofs.lemmas.Bool.{cases_lt, cases_eq, true≢false}
use Rattle.logic.proofs.Lists.{forgets}
use Rattle.logic.specs.Formula.{Formula, wait, reach, span}
use Rattle.logic.specs.Trace.{blank, trace, newest, Rising}
use Rattle.sample.specs.declared.row.SampleRow.{SampleRow}
use Rattle.scale.specs.Laws.{Ops, Laws}
use Rattle.world.proofs.Holding.{is_held, stamp_old}
use Rattle.world.proofs.Settling.{over}
use Rattle.world.specs.Steps.{held_of, stamp_at, shown, settled}

-- the first samples rise too
pub rising_first : (σ more : List SampleRow) → Rising (trace (σ ++ more)) → Rising (trace σ)
rising_first σ more up a b l r =
    let x = stamp_old σ more a (omega arith) in
    let y = stamp_old σ more b r in
    let n = length-append σ more in
    let u = up a b l (omega arith) in
    omega arith

module _ {V : Type 0} {ops : Ops V} (laws : Laws ops) (read : ℕ → ℕ → V) where
  -- with a sample more, the ends at an unsettled or new position are those over the held samples and the new one
  pub held_enough :
      (A : Formula) (σ : List SampleRow) (x : SampleRow) (taken low j : ℕ) →
      Rising (trace (σ ++ x ∷ [])) →
      ((q : ℕ) → q < low → held_of A σ taken q ≡ false) →
      low ≤ length σ →
      low ≤ j →
      j ≤ length σ →
      (j < length σ → settled ops read A σ j ≡ false) →
      shown ops read A (σ ++ x ∷ []) j ≡ shown ops read A (drop low σ ++ x ∷ []) (j - low)
  held_enough A σ x taken low j up freed low≤ low≤j j≤ unsettled =
      let old = take low σ in
      let kept = drop low σ ++ x ∷ [] in
      let whole : old ++ kept ≡ σ ++ x ∷ [] = sym (append_assoc old (drop low σ) (x ∷ [])) ∙ ap (λ y. y ++ x ∷ []) (take-append-drop low σ) in
      let len : length old ≡ low = length-take-le low σ low≤ in
      let size : length kept ≡ length σ - low + 1 = length-append (drop low σ) (x ∷ []) ∙ ap (λ y. y + 1) (length-drop low σ) in
      let up₀ = rising_first σ (x ∷ []) up in
      let size₀ = length-append σ (x ∷ []) in
      -- the newest was not yet the wait later than j
      let early : (q : ℕ) → q < low → newest (trace σ) < stamp_at (σ ++ x ∷ []) j + wait A = λ q l.
      elim (cases_eq j (length σ)) [
        | inl y ↦ (
            let a = stamp_old σ (x ∷ []) (length σ - 1) (omega arith) in
            let b = up (length σ - 1) j (omega arith) (omega arith) in
            omega arith)
        | inr y ↦ (
            let a = stamp_old σ (x ∷ []) j (omega arith) in
            elim (cases_lt (newest (trace σ)) (stamp_at σ j + wait A)) [
              | inl z ↦ omega arith
              | inr z ↦ absurd (true≢false (sym (over laws read A σ j up₀ (omega arith) z) ∙ unsettled (omega arith)))
            ])
      ] in
      let clear : (q : ℕ) → q < length old → stamp_at (old ++ kept) q + reach A < stamp_at kept (j - low) = λ q l.
      let here : stamp_at (old ++ kept) (length old + (j - low)) ≡ stamp_at kept (j - low) = ap (λ y. y.stamp) (get_or-append-add old kept (j - low) blank) in
      let place : length old + (j - low) ≡ j = omega arith in
      let there : stamp_at (σ ++ x ∷ []) j ≡ stamp_at kept (j - low) = sym (ap₂ stamp_at whole place) ∙ here in
      let one : stamp_at (old ++ kept) q ≡ stamp_at σ q = ap (λ y. stamp_at y q) whole ∙ stamp_old σ (x ∷ []) q (omega arith) in
      let e = early q (omega arith) in
      elim (cases_lt (newest (trace σ)) (stamp_at σ q + span A)) [
        | inl y ↦ absurd (true≢false (sym (is_held A σ taken q (omega arith) (inr y)) ∙ freed q (omega arith)))
        | inr y ↦ omega arith
      ] in
      let f = forgets laws read A old kept (j - low) (rw whole up) (omega arith) clear in
      ap₂ (shown ops read A) (sym whole) (sym (ap (λ k. k + (j - low)) len ∙ (let k : low + (j - low) ≡ j = omega arith in k))) ∙ f
