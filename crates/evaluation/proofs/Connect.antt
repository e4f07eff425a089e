-- From passes over a view to the connectives over its window. Assumes nothing.
use Rattle.std.proofs.Common.{◌≡◌, ℕ, zero, suc, ◌+◌, ◌-◌, ◌<◌, ◌≤◌, Bool, true, false, cond, ◌&&◌, ltb, leb, List, get_or, sym, refl, ap, ◌∙◌, ap₂, add-one, lt-ltb, arith}
use Rattle.std.proofs.lemmas.Bool.Decides.{nat_tests}
use Rattle.std.proofs.lemmas.List.FromFn.{length-range_with_len, get_or-range_with_len}
use Rattle.std.specs.Int.{abs_diff}
use Rattle.std.specs.List.{range_with_len}
use borrow.Author.Tests.{lt-leb}
use Rattle.scale.specs.Laws.{Ops, Laws}
use Rattle.scale.proofs.Lattice.{or-worst}
use Rattle.logic.specs.Meaning.{Ends, until_at, since_at, yesterday_at}
use Rattle.logic.specs.Trace.{Trace, newest, within}
use Rattle.logic.specs.Values.{when, all}
use Rattle.evaluation.specs.Connectives.{until_ends, since_ends, next_ends, yesterday_ends}
use Rattle.evaluation.specs.Memory.{Climbs}
use Rattle.evaluation.specs.Pass.{Pass, run}
use Rattle.evaluation.specs.Passes.{near, ends_near, pass_of, PassedBy, Passed}
use Rattle.evaluation.specs.Told.{told, lows, highs}
use Rattle.evaluation.specs.Views.{trace_in, gap_in, ends_at}
use Rattle.evaluation.specs.declared.pass.Seen.{Seen}
use Rattle.evaluation.specs.declared.ring.Ring.{Ring}
use Rattle.evaluation.proofs.Downwards.{down, length-down, get_or-down}
use Rattle.evaluation.proofs.Runs.{run_same, run_on, run_back}

-- of two stamps that do not fall, how far they are apart tells whether the later is in the window of the earlier
near_on : (lo hi s t : ℕ) → s ≤ t → near lo hi (abs_diff s t) ≡ (leb (s + lo) t && leb t (s + hi))
near_on lo hi s t h = grind (arith, nat_tests)

near_back : (lo hi s t : ℕ) → s ≤ t → near lo hi (abs_diff t s) ≡ (leb (s + lo) t && leb t (s + hi))
near_back lo hi s t h = ap (near lo hi) (let e : abs_diff t s ≡ abs_diff s t = omega arith in e) ∙ near_on lo hi s t h

module _ {V : Type 0} {o : Ops V} (laws : Laws o) (left right : Ring) (lo hi j : ℕ) (inside : j < left.view.count) (up : Climbs (trace_in left.view)) (end : Ends V → V) where
  abbrev σ : Trace
  σ = trace_in left.view

  abbrev A : ℕ → V
  A k = end (ends_at o left k)

  abbrev B : ℕ → V
  B k = end (ends_at o right k)

  abbrev on : List ℕ
  on = range_with_len j (left.view.count - j)

  on_at : (i : ℕ) → i < left.view.count - j → get_or on i 0 ≡ j + i
  on_at i h = get_or-range_with_len j (left.view.count - j) i 0 h

  same_on : pass_of o left right lo hi j on end (left.view.count - j) ≡ run o (λ i. within σ.stamp lo hi j (j + i)) (λ i. A (j + i)) (λ i. B (j + i)) (left.view.count - j)
  unfolding within
  same_on =
      run_same o _ _ _ _ _ _ (left.view.count - j) (λ i l. (
        ap (λ k. near lo hi (gap_in left.view j k)) (on_at i l) ∙ near_on lo hi (σ.stamp j) (σ.stamp (j + i)) (up j (j + i) (omega arith) (omega arith)),
        ap A (on_at i l),
        ap B (on_at i l),
      ))

  pub until_is : (p : Pass V) → PassedBy o left right lo hi j on end p →
      (p.found ≡ until_at o left.view.count (within σ.stamp lo hi j) A B j) × (newest σ ≤ σ.stamp j + hi → p.so_far ≡ all o j (left.view.count - j) A)
  unfolding until_at
  until_is p s =
      let n = length-range_with_len j (left.view.count - j) in
      let same = ap (pass_of o left right lo hi j on end) n ∙ same_on in
      let done = run_on laws (within σ.stamp lo hi j) A B j (left.view.count - j) in (
        s.found (λ i k a b.
            let x = ap (gap_in left.view j) (on_at i (omega arith)) in
            let y = ap (gap_in left.view j) (on_at k (omega arith)) in
            let u = up j (j + i) (omega arith) (omega arith) in
            let w = up (j + i) (j + k) (omega arith) (omega arith) in
            omega arith)
            ∙ ap (λ p. p.found) same
            ∙ done.0,
        λ early.
            s.so_far (λ i l.
            let x = ap (gap_in left.view j) (on_at i (omega arith)) in
            let u = up j (j + i) (omega arith) (omega arith) in
            let w = up (j + i) (left.view.count - 1) (omega arith) (omega arith) in
            omega arith)
            ∙ ap (λ p. p.so_far) same
            ∙ done.1,
      )

  abbrev back : List ℕ
  back = down (j + 1) (j + 1)

  back_at : (i : ℕ) → i < j + 1 → get_or back i 0 ≡ j - i
  back_at i h = let e = get_or-down (j + 1) (j + 1) i h in omega arith

  same_back : pass_of o left right lo hi j back end (j + 1) ≡ run o (λ i. within σ.stamp lo hi (j - i) j) (λ i. A (j - i)) (λ i. B (j - i)) (j + 1)
  unfolding within
  same_back =
      run_same o _ _ _ _ _ _ (j + 1) (λ i l. (
        ap (λ k. near lo hi (gap_in left.view j k)) (back_at i l) ∙ near_back lo hi (σ.stamp (j - i)) (σ.stamp j) (up (j - i) j (omega arith) inside),
        ap A (back_at i l),
        ap B (back_at i l),
      ))

  pub since_is : (p : Pass V) → PassedBy o left right lo hi j back end p → p.found ≡ since_at o (λ k. within σ.stamp lo hi k j) A B j
  unfolding since_at
  since_is p s =
      s.found (λ i k a b.
      let n = length-down (j + 1) (j + 1) in
      let x = ap (gap_in left.view j) (back_at i (omega arith)) in
      let y = ap (gap_in left.view j) (back_at k (omega arith)) in
      let u = up (j - k) (j - i) (omega arith) (omega arith) in
      let w = up (j - i) j (omega arith) inside in
      omega arith)
      ∙ ap (λ p. p.found) (ap (pass_of o left right lo hi j back end) (length-down (j + 1) (j + 1)) ∙ same_back ∙ ap (run o (λ i. within σ.stamp lo hi (j - i) j) (λ i. A (j - i)) (λ i. B (j - i))) (add-one j))
      ∙ (run_back laws (λ k. within σ.stamp lo hi k j) A B j 0 (suc j) (omega arith)).0

module _ {V : Type 0} {o : Ops V} (laws : Laws o) (left right : Ring) (lo hi j : ℕ) (inside : j < left.view.count) (up : Climbs (trace_in left.view)) (s : Seen V) where
  abbrev until_where : Bool → Ends V
  until_where more = record {
    low = until_at o left.view.count (within (trace_in left.view).stamp lo hi j) (λ k. (ends_at o left k).low) (λ k. (ends_at o right k).low) j;
    high = o.or
        (until_at o left.view.count (within (trace_in left.view).stamp lo hi j) (λ k. (ends_at o left k).high) (λ k. (ends_at o right k).high) j)
        (when o more (all o j (left.view.count - j) (λ k. (ends_at o left k).high)));
  }

  -- the window of an until is still open where samples to come can be in it, and else it is over
  module _ (p : Passed o left right lo hi j (range_with_len j (left.view.count - j)) s) where
    lows_are :
        (s.found.low ≡ until_at o left.view.count (within (trace_in left.view).stamp lo hi j) (λ k. (ends_at o left k).low) (λ k. (ends_at o right k).low) j)
        × (newest (trace_in left.view) ≤ (trace_in left.view).stamp j + hi → s.so_far.low ≡ all o j (left.view.count - j) (λ k. (ends_at o left k).low))
    lows_are = until_is laws left right lo hi j inside up (λ e. e.low) (lows s) p.low_ends

    highs_are :
        (s.found.high ≡ until_at o left.view.count (within (trace_in left.view).stamp lo hi j) (λ k. (ends_at o left k).high) (λ k. (ends_at o right k).high) j)
        × (newest (trace_in left.view) ≤ (trace_in left.view).stamp j + hi → s.so_far.high ≡ all o j (left.view.count - j) (λ k. (ends_at o left k).high))
    highs_are = until_is laws left right lo hi j inside up (λ e. e.high) (highs s) p.high_ends

    pub until_open : gap_in left.view j (left.view.count - 1) < hi → ◌≡◌ {A = Ends V} (record { low = s.found.low; high = o.or s.found.high s.so_far.high }) (until_ends o (trace_in left.view) lo hi (ends_at o left) (ends_at o right) j)
    until_open l =
        let u = up j (left.view.count - 1) (omega arith) (omega arith) in
        let more : true ≡ ltb (newest (trace_in left.view)) ((trace_in left.view).stamp j + hi) = sym (lt-ltb _ _ (omega arith)) in
        ap₂ (λ x y. record { low = x; high = y }) lows_are.0 (ap₂ o.or highs_are.0 (highs_are.1 (omega arith))) ∙ ap until_where more

    pub until_over : hi ≤ gap_in left.view j (left.view.count - 1) → told s.found ≡ until_ends o (trace_in left.view) lo hi (ends_at o left) (ends_at o right) j
    until_over l =
        let u = up j (left.view.count - 1) (omega arith) (omega arith) in
        let over : false ≡ ltb (newest (trace_in left.view)) ((trace_in left.view).stamp j + hi) = sym (lt-leb _ _ (omega arith)) in
        ap₂ (λ x y. record { low = x; high = y }) lows_are.0 (highs_are.0 ∙ sym (or-worst laws _)) ∙ ap until_where over

  pub since_found : Passed o left right lo hi j (down (j + 1) (j + 1)) s → told s.found ≡ since_ends o (trace_in left.view) lo hi (ends_at o left) (ends_at o right) j
  since_found p =
      ap₂ (λ x y. record { low = x; high = y })
      (since_is laws left right lo hi j inside up (λ e. e.low) (lows s) p.low_ends)
      (since_is laws left right lo hi j inside up (λ e. e.high) (highs s) p.high_ends)

module _ {V : Type 0} (o : Ops V) (r : Ring) (lo hi : ℕ) where
  abbrev next_where : ℕ → Bool → Ends V
  next_where j there = record {
    low = when o there (when o (within (trace_in r.view).stamp lo hi j (suc j)) (ends_at o r (suc j)).low);
    high = cond there (when o (within (trace_in r.view).stamp lo hi j (suc j)) (ends_at o r (suc j)).high) (when o (leb 1 hi) o.best);
  }

  abbrev kept_where : ℕ → Bool → Ends V
  kept_where k test = record { low = when o test (ends_at o r k).low; high = when o test (ends_at o r k).high }

  pub next_there : (j : ℕ) → Climbs (trace_in r.view) → j + 1 < r.view.count → ends_near o r lo hi j (j + 1) ≡ next_ends o (trace_in r.view) lo hi (ends_at o r) j
  unfolding within
  next_there j up l =
      let there : true ≡ ltb (suc j) r.view.count = sym (lt-ltb (suc j) r.view.count (omega arith)) in
      ap (ends_near o r lo hi j) (add-one j)
      ∙ ap (kept_where (suc j)) (near_on lo hi ((trace_in r.view).stamp j) ((trace_in r.view).stamp (suc j)) (up j (suc j) (omega arith) (omega arith)))
      ∙ ap (next_where j) there

  pub yesterday_none : (j : ℕ) → j ≡ 0 → ◌≡◌ {A = Ends V} (record { low = o.worst; high = o.worst }) (yesterday_ends o (trace_in r.view) lo hi (ends_at o r) j)
  unfolding yesterday_at
  yesterday_none zero e = refl
  yesterday_none (suc j) e = absurd (let z : ⊥ = omega arith in z)

  pub yesterday_there : (j : ℕ) → Climbs (trace_in r.view) → 0 < j → j < r.view.count → ends_near o r lo hi j (j - 1) ≡ yesterday_ends o (trace_in r.view) lo hi (ends_at o r) j
  unfolding yesterday_at within
  yesterday_there zero up l h = absurd (let z : ⊥ = omega arith in z)
  yesterday_there (suc j) up l h =
      let before : suc j - 1 ≡ j = omega arith in
      ap (ends_near o r lo hi (suc j)) before
      ∙ ap (kept_where j) (near_back lo hi ((trace_in r.view).stamp j) ((trace_in r.view).stamp (suc j)) (up j (suc j) (omega arith) h))
