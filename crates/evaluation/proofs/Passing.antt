-- A pass over positions, as its loop makes it. Assumes nothing.
use Rattle.std.proofs.Common.{sym, ◌≡◌, ℕ, ◌+◌, ◌-◌, ◌<◌, Bool, false, List, [], ◌∷◌, ◌++◌, length, get_or, Some, None, Option, refl, ap, ◌∙◌, ap₂, subst, add-one, arith}
use Rattle.std.proofs.iter.Yields.{nat_range_steps}
use Rattle.std.proofs.lemmas.List.FromFn.{length-range_with_len, get_or-range_with_len}
use Rattle.std.specs.Iterator.{AlwaysYields, Yields}
use Rattle.std.specs.List.{range_with_len}
use Rattle.std.specs.Option.{MatchOption}
use Rattle.std.specs.declared.iter.Rev.{Rev}
use Rattle.std.specs.declared.ops.Range.{Range}
use Rattle.std.proofs.lemmas.Bool.Decides.{nat_tests}
use Rattle.std.proofs.lemmas.List.{get_or_read, length_push}
use Rattle.std.proofs.lemmas.Iterator.{YieldsList, YieldsList-from_range}
use Rattle.std.proofs.lemmas.Iterator.Consumers.{YieldsList-from_shown, YieldsList-turn, YieldsList-end}
use Rattle.scale.specs.Laws.{Ops, Laws}
use Rattle.logic.specs.Meaning.{Ends}
use Rattle.logic.specs.Values.{when}
use Rattle.evaluation.specs.Pass.{Pass}
use Rattle.evaluation.specs.Passes.{Along, near, gap_at, pass_of, PassedBy, Passed, Through}
use Rattle.evaluation.specs.Told.{told}
use Rattle.evaluation.specs.Views.{gap_in, ends_at}
use Rattle.evaluation.specs.declared.ends.Ends.{Ends as Pair}
use Rattle.evaluation.specs.declared.ring.Ring.{Ring}
use Rattle.evaluation.proofs.Downwards.{down, length-down, get_or-down}
use Rattle.evaluation.proofs.Runs.{run_none, run_then, run_stops, or_when}

-- which position of the list comes next, after those of xs, and where none comes
pub turn :
    {S : Type 0} {steps : S → Option ℕ → S → Type 0} {s s' : S} {count : ℕ} {ks : List ℕ} →
    Along steps s count ks →
    s' ≡ s →
    (xs : List ℕ) (t : S) → Yields steps s' xs t → (r : Option ℕ) (u : S) (k : ℕ) → r ≡ Some k → steps t r u →
    (length xs < length ks) × (k ≡ get_or ks (length xs) 0) × (k < count)
turn {steps} {s} {s'} {count} {ks} along here xs t y r u k e h =
    let come : YieldsList steps (λ k. k) s' ks = record { runs = rw here along.come } in
    let f = YieldsList-turn come xs t y r u k e h in
    let at : k ≡ get_or ks (length xs) 0 = get_or_read ks (length xs) k f.0 f.1 0 in
    let w = along.within (length xs) f.0 in
    (f.0, at, omega arith)

pub ended :
    {S : Type 0} {steps : S → Option ℕ → S → Type 0} {s s' : S} {count : ℕ} {ks : List ℕ} →
    Along steps s count ks →
    s' ≡ s →
    (xs : List ℕ) (t : S) → Yields steps s' xs t → (r : Option ℕ) (u : S) → r ≡ None → steps t r u → length xs ≡ length ks
ended {steps} {s} {s'} {count} {ks} along here xs t y r u e h =
    let come : YieldsList steps (λ k. k) s' ks = record { runs = rw here along.come } in
    (YieldsList-end come xs t y r u e h).1

too_far : (low high gap : ℕ) → high < gap → near low high gap ≡ false
too_far low high gap h = grind (arith, nat_tests)

module _ {V : Type 0} (o : Ops V) (left right : Ring) (low high j : ℕ) (ks : List ℕ) (end : Ends V → V) where
  pass_none : {found so_far : V} → found ≡ o.worst → so_far ≡ o.best → record { found = found; so_far = so_far } ≡ pass_of o left right low high j ks end 0
  pass_none p q = run_none o _ _ _ p q

  pass_more :
      Laws o →
      (xs : List ℕ) (k : ℕ) {found so_far found' so_far' : V} {inside : Bool} {a b : V} →
      k ≡ get_or ks (length xs) 0 →
      record { found = found; so_far = so_far } ≡ pass_of o left right low high j ks end (length xs) →
      found' ≡ o.or found (when o inside (o.and so_far b)) →
      so_far' ≡ o.and so_far a →
      inside ≡ near low high (gap_in left.view j k) →
      a ≡ end (ends_at o left k) →
      b ≡ end (ends_at o right k) →
      record { found = found'; so_far = so_far' } ≡ pass_of o left right low high j ks end (length (xs ++ k ∷ []))
  pass_more laws xs k {found} {so_far} {found'} {so_far'} {inside} {a} {b} e p f s i l r =
      rw (length_push xs k) (run_then o _ _ _ (length xs) (record { found = found; so_far = so_far }) p
      (ap₂ (λ x y. record { found = x; so_far = y }) (f ∙ sym (or_when laws inside found (o.and so_far b))) s)
      (i ∙ ap (λ k. near low high (gap_in left.view j k)) e)
      (l ∙ ap (λ k. end (ends_at o left k)) e)
      (r ∙ ap (λ k. end (ends_at o right k)) e))

  pass_stops :
      (n : ℕ) {p : Pass V} →
      n < length ks →
      high < gap_at o left right low high j ks n →
      p ≡ pass_of o left right low high j ks end n →
      PassedBy o left right low high j ks end p
  pass_stops n l far e = record {
    found = λ up. ap (λ p. p.found) e ∙ run_stops o _ _ _ n (length ks) (omega arith) (λ i p q. let u = up n i p q in too_far low high _ (omega arith));
    so_far = λ all. let u = all n l in absurd (let z : ⊥ = omega arith in z);
  }

  pass_ends :
      (n : ℕ) {p : Pass V} →
      n ≡ length ks →
      p ≡ pass_of o left right low high j ks end n →
      PassedBy o left right low high j ks end p
  pass_ends n l e = record { found = λ _. rw l at (ap (λ p. p.found) e); so_far = λ _. rw l at (ap (λ p. p.so_far) e) }

-- the positions from j on, and those from j back
pub along_on : {s : Range ℕ} (j count : ℕ) → s ≡ record { start = j; end = count } → j < count → Along nat_range_steps s count (range_with_len j (count - j))
along_on {s} j count here inside = record {
  come = let all : YieldsList nat_range_steps (λ k. k) s (range_with_len j (count - j)) = YieldsList-from_range j count (count - j) here refl in all.runs;
  within = λ i h.
      let n = length-range_with_len j (count - j) in
      let e = get_or-range_with_len j (count - j) i 0 (omega arith) in
      omega arith;
}

abbrev steps_back : Rev (Range ℕ) → Option ℕ → Rev (Range ℕ) → Type 0
steps_back s r t = (t.iter.start ≡ s.iter.start) × MatchOption r ((s.iter.end - s.iter.start ≡ 0) × (t.iter.end ≡ s.iter.end))
    (λ x. (0 < s.iter.end - s.iter.start) × (x ≡ t.iter.end) × (s.iter.end ≡ t.iter.end + 1))

down_none : (e n : ℕ) → n ≡ 0 → length (down e n) ≡ 0
down_none e n h = length-down e n ∙ h

down_some : (e n x e' n' : ℕ) → e ≡ e' + 1 → x ≡ e' → n ≡ n' + 1 → down e n ≡ x ∷ down e' n'
down_some e n x e' n' p q r =
    ap₂ down p (r ∙ add-one n')
    ∙ ap₂ (λ y ys. y ∷ ys) (let u : e' + 1 - 1 ≡ x = omega arith in u) (ap (λ y. down y n') (let u : e' + 1 - 1 ≡ e' = omega arith in u))

pub along_back : {s : Rev (Range ℕ)} (j count : ℕ) → s.iter ≡ record { start = 0; end = j + 1 } → j < count → Along steps_back s count (down (j + 1) (j + 1))
along_back {s} j count here inside = record {
  come =
      let all : YieldsList steps_back (λ k. k) s (down s.iter.end (s.iter.end - s.iter.start)) =
      YieldsList-from_shown steps_back (λ k. k) (λ t. down t.iter.end (t.iter.end - t.iter.start))
      (λ t u h. down_none _ _ h.1.0)
      (λ t x u h. down_some _ _ x _ _ h.1.2 h.1.1 (omega (arith, h.0, h.1.0, h.1.2))) s in
      let n : s.iter.end - s.iter.start ≡ j + 1 = omega (arith, ap (λ r. r.start) here, ap (λ r. r.end) here) in
      subst (AlwaysYields steps_back (λ k. k) s) (ap₂ down (ap (λ r. r.end) here) n) all.runs;
  within = λ i h.
      let n = length-down (j + 1) (j + 1) in
      let e = get_or-down (j + 1) (j + 1) i (omega arith) in
      omega arith;
}

-- the same for both ends at once, as the calls in the loop make them
module _ {V : Type 0} (o : Ops V) (left right : Ring) (low high j : ℕ) (ks : List ℕ) where
  pub through_none :
      {found so_far : Pair V} {worst best : V} →
      found ≡ record { low = worst; high = worst } →
      worst ≡ o.worst →
      so_far ≡ record { low = best; high = best } →
      best ≡ o.best →
      Through o left right low high j ks found so_far 0
  through_none f w s b = record {
    low_ends = pass_none o left right low high j ks (λ e. e.low) (ap (λ e. e.low) f ∙ w) (ap (λ e. e.low) s ∙ b);
    high_ends = pass_none o left right low high j ks (λ e. e.high) (ap (λ e. e.high) f ∙ w) (ap (λ e. e.high) s ∙ b);
  }

  pub through_more :
      Laws o →
      (xs : List ℕ) (k : ℕ) {found so_far a b met part found' so_far' : Pair V} {inside : Bool} →
      k ≡ get_or ks (length xs) 0 →
      Through o left right low high j ks found so_far (length xs) →
      inside ≡ near low high (gap_in left.view j k) →
      told a ≡ ends_at o left k →
      told b ≡ ends_at o right k →
      met ≡ record { low = o.and so_far.low b.low; high = o.and so_far.high b.high } →
      part ≡ record { low = when o inside met.low; high = when o inside met.high } →
      found' ≡ record { low = o.or found.low part.low; high = o.or found.high part.high } →
      so_far' ≡ record { low = o.and so_far.low a.low; high = o.and so_far.high a.high } →
      Through o left right low high j ks found' so_far' (length (xs ++ k ∷ []))
  through_more laws xs k {found} {so_far} {a} {b} {met} {part} {found'} {so_far'} {inside} e t i l r m p f s = record {
    low_ends =
        pass_more o left right low high j ks (λ e. e.low) laws xs k e t.low_ends
        (ap (λ e. e.low) f ∙ ap (o.or found.low) (ap (λ e. e.low) p ∙ ap (λ e. when o inside e.low) m))
        (ap (λ e. e.low) s) i (ap (λ e. e.low) l) (ap (λ e. e.low) r);
    high_ends =
        pass_more o left right low high j ks (λ e. e.high) laws xs k e t.high_ends
        (ap (λ e. e.high) f ∙ ap (o.or found.high) (ap (λ e. e.high) p ∙ ap (λ e. when o inside e.high) m))
        (ap (λ e. e.high) s) i (ap (λ e. e.high) l) (ap (λ e. e.high) r);
  }

  pub passed_part : (n : ℕ) {found so_far : Pair V} → n < length ks → high < gap_at o left right low high j ks n → Through o left right low high j ks found so_far n → Passed o left right low high j ks (record { found = found; so_far = so_far })
  passed_part n l far t = record {
    low_ends = pass_stops o left right low high j ks (λ e. e.low) n l far t.low_ends;
    high_ends = pass_stops o left right low high j ks (λ e. e.high) n l far t.high_ends;
  }

  pub passed_all : (n : ℕ) {found so_far : Pair V} → n ≡ length ks → Through o left right low high j ks found so_far n → Passed o left right low high j ks (record { found = found; so_far = so_far })
  passed_all n l t = record {
    low_ends = pass_ends o left right low high j ks (λ e. e.low) n l t.low_ends;
    high_ends = pass_ends o left right low high j ks (λ e. e.high) n l t.high_ends;
  }
