-- The theorems over lists of samples. Assumes nothing.
use Rattle.std.proofs.Common.{◌≡◌, ℕ, zero, suc, ◌+◌, ◌-◌, ◌<◌, ◌≤◌, List, [], ◌∷◌, ◌++◌, length, get_or, sym, refl, ap, ◌∙◌, zero-le, zero-add, arith, length-append, get_or-append-add}
use native.Mathlib.Decide.{dec_lt}
use lib.ListN.{get_or-append}
use Rattle.scale.specs.Limits.{largest_code}
use Rattle.scale.specs.Laws.{Ops, Laws}
use Rattle.logic.specs.Trace.{blank, trace, newest, Rising}
use Rattle.std.proofs.lemmas.List.{get_or_push}
use Rattle.logic.specs.Formula.{wait}
use Rattle.logic.specs.Meaning.{Ends}
use Rattle.sample.specs.declared.row.SampleRow.{SampleRow}
use Rattle.logic.specs.Theorems.{Narrows, Encloses, Forgets, StaysSettled, CanContinue}
use Rattle.logic.proofs.Windows.{rising}
use Rattle.logic.proofs.Settle.{settled}
use Rattle.logic.proofs.Narrow.{first, narrowed, ordered}
use Rattle.scale.proofs.Lattice.{antisym, below_trans, below_of}
use Rattle.logic.proofs.Forget.{Tail, found}

both_ends : {V : Type 0} {x y : Ends V} → x.low ≡ y.low → x.high ≡ y.high → x ≡ y
both_ends p q = λ i. record { low = p i; high = q i }

-- the first samples of a longer list are those of the shorter one
begins : (σ δ : List SampleRow) → Rising (trace (σ ++ δ)) → Tail 0 (first (length σ) (trace (σ ++ δ))) (trace σ)
begins σ δ up =
    let at : (k : ℕ) → k < length σ → get_or (σ ++ δ) (0 + k) blank ≡ get_or σ k blank = λ k l. rw zero-add (get_or-append σ δ blank k l) in
    let was : (k : ℕ) → k < length σ → (trace (σ ++ δ)).stamp k ≡ (trace σ).stamp k = λ k l. ap (λ x. x.stamp) (get_or-append σ δ blank k l) in
    record {
      sizes = omega arith;
      stamps = λ k l. ap (λ x. x.stamp) (at k l);
      codes = λ k ch l. ap (λ x. get_or x.codes ch 0) (at k l);
      up = λ a b l r. rw (was a (omega arith), was b r) at (rising (trace (σ ++ δ)) up a b l (simp length-append (omega arith)));
    }

module _ {V : Type 0} {O : Ops V} (L : Laws O) where
  pub narrows : Narrows O
  narrows read φ σ δ j up p =
      let n = narrowed L read (trace (σ ++ δ)) up (length σ) (simp length-append (omega arith)) φ j p in
      let s = rw zero-add at (found L read 0 _ _ (begins σ δ up) φ j p (λ q l. absurd (omega arith))) in
      (rw s.0 at n.0, rw s.1 at n.1)

  pub encloses : Encloses O
  encloses read φ σ δ j up p q =
      let n = narrows read φ σ δ j up p in
      let s = settled L read (trace (σ ++ δ)) up φ j (simp length-append (omega arith)) q in
      (rw s.0 at n.0, rw s.1 at n.1)

  pub forgets : Forgets O
  forgets read φ old kept j up p clear =
      let at : (k : ℕ) → get_or (old ++ kept) (length old + k) blank ≡ get_or kept k blank = λ k. get_or-append-add old kept k blank in
      let G : Tail (length old) (trace (old ++ kept)) (trace kept) = record {
        sizes = length-append old kept;
        stamps = λ k l. ap (λ x. x.stamp) (at k);
        codes = λ k ch l. ap (λ x. get_or x.codes ch 0) (at k);
        up = λ a b l r.
            let u = rising (trace (old ++ kept)) up (length old + a) (length old + b) (omega arith) (simp length-append (omega arith)) in
            rw (at a, at b) at u;
      } in
      let e = found L read (length old) _ _ G φ j p clear in
      both_ends e.0 e.1

  pub stays_settled : StaysSettled O
  stays_settled read φ σ δ j up p e =
      let n = narrows read φ σ δ j up p in
      let o = ordered L read (trace (σ ++ δ)) φ j in
      let low = antisym L (below_trans L o (below_trans L n.1 (below_of L (sym e)))) n.0 in
      let high = antisym L n.1 (below_trans L (below_of L (sym e)) (below_trans L n.0 o)) in
      both_ends low high

zeros : (channel : ℕ) → get_or (0 ∷ 0 ∷ 0 ∷ 0 ∷ []) channel 0 ≤ largest_code
zeros zero = zero-le
zeros (suc zero) = zero-le
zeros (suc (suc zero)) = zero-le
zeros (suc (suc (suc zero))) = zero-le
zeros (suc (suc (suc (suc k)))) = zero-le

-- one sample more, late enough
pub can_continue : CanContinue
can_continue φ σ j up p =
    let t = trace σ in
    let late : SampleRow = record { stamp = newest (trace σ) + suc (wait φ); codes = 0 ∷ 0 ∷ 0 ∷ 0 ∷ [] } in
    let was : (k : ℕ) → k < length σ → get_or (σ ++ (late ∷ [])) k blank ≡ get_or σ k blank = λ k l. get_or-append σ (late ∷ []) blank k l in
    let is : get_or (σ ++ (late ∷ [])) (length σ) blank ≡ late = get_or_push σ late blank (length σ) refl in
    let long : length (σ ++ (late ∷ [])) ≡ length σ + 1 = length-append σ (late ∷ []) in
    let old : (k : ℕ) → k < length σ → (trace (σ ++ (late ∷ []))).stamp k ≡ (trace σ).stamp k = λ k l. ap (λ x. x.stamp) (was k l) in
    let new : (trace (σ ++ (late ∷ []))).stamp (length σ) ≡ newest (trace σ) + suc (wait φ) = ap (λ x. x.stamp) is in
    let rises : (a b : ℕ) → a < b → b < length (σ ++ (late ∷ [])) → (trace (σ ++ (late ∷ []))).stamp a < (trace (σ ++ (late ∷ []))).stamp b = λ a b l r.
    elim (dec_lt b (length σ)) [
      | yes x ↦ rw (old a (omega arith), old b x) (up a b l x)
      | no x ↦
          let e : b ≡ length σ = omega arith in
          let h = rising (trace σ) up a (length σ - 1) (omega arith) (omega arith) in
          let f = ap (trace (σ ++ (late ∷ []))).stamp e ∙ new in
          let g = old a (omega arith) in
          omega arith
    ] in
    let last : newest (trace (σ ++ (late ∷ []))) ≡ newest (trace σ) + suc (wait φ) =
    ap (trace (σ ++ (late ∷ []))).stamp (let e : length (σ ++ (late ∷ [])) - 1 ≡ length σ = omega arith in e) ∙ new in
    let h = rising (trace σ) up j (length σ - 1) (omega arith) (omega arith) in
    let g = old j p in
    (late ∷ [], (record { four = refl; within = zeros }, tt), rises, omega arith)
