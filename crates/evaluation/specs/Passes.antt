-- One pass over positions of a view, with the ends of two nodes there, as the code makes it. Assumes nothing.
use Rattle.std.specs.Prelude.{◌≡◌, ℕ, ◌<◌, ◌≤◌, Bool, ◌&&◌, List, length, nat_le, Option, slice_index}
use Rattle.std.specs.Iterator.{AlwaysYields}
use Rattle.scale.specs.Laws.{Ops}
use Rattle.logic.specs.Meaning.{Ends}
use Rattle.logic.specs.Values.{when}
use Rattle.evaluation.specs.Pass.{Pass, run}
use Rattle.evaluation.specs.Told.{lows, highs}
use Rattle.evaluation.specs.Views.{gap_in, ends_at}
use Rattle.evaluation.specs.declared.ends.Ends.{Ends as Pair}
use Rattle.evaluation.specs.declared.pass.Seen.{Seen}
use Rattle.evaluation.specs.declared.ring.Ring.{Ring}

-- the positions that come are those of ks, and each is one of the count positions of a view
pub record Along {S : Type 0} (steps : S → Option ℕ → S → Type 0) (positions : S) (count : ℕ) (ks : List ℕ) : Type 0 where
  pub come : AlwaysYields steps (λ k. k) positions ks
  pub within : (i : ℕ) → i < length ks → slice_index ks i < count

-- whether so many ticks are within the bounds
abbrev pub near : ℕ → ℕ → ℕ → Bool
near low high gap = nat_le low gap && nat_le gap high

-- the ends at position k where it is near enough to position j, else worst
abbrev pub ends_near : {V : Type 0} → Ops V → Ring → ℕ → ℕ → ℕ → ℕ → Ends V
ends_near o r low high j k = record {
  low = when o (near low high (gap_in r.view j k)) (ends_at o r k).low;
  high = when o (near low high (gap_in r.view j k)) (ends_at o r k).high;
}

module _ {V : Type 0} (o : Ops V) (left right : Ring) (low high j : ℕ) (ks : List ℕ) where
  -- how far from position j the i-th position of the pass is
  abbrev pub gap_at : ℕ → ℕ
  gap_at i = gap_in left.view j (slice_index ks i)

  -- over the first n positions, with one of the ends
  abbrev pub pass_of : (Ends V → V) → ℕ → Pass V
  pass_of end n =
      run o (λ i. near low high (gap_at i))
      (λ i. end (ends_at o left (slice_index ks i)))
      (λ i. end (ends_at o right (slice_index ks i)))
      n

  -- found and so_far are those of the first n positions, with each end
  pub record Through (found so_far : Pair V) (n : ℕ) : Type 0 where
    pub low_ends : record { found = found.low; so_far = so_far.low } ≡ pass_of (λ e. e.low) n
    pub high_ends : record { found = found.high; so_far = so_far.high } ≡ pass_of (λ e. e.high) n

  -- what was found if the positions go away from position j; and the left operand if all of them are near enough
  pub record PassedBy (end : Ends V → V) (p : Pass V) : Type 0 where
    pub found : ((i k : ℕ) → i ≤ k → k < length ks → gap_at i ≤ gap_at k) → p.found ≡ (pass_of end (length ks)).found
    pub so_far : ((i : ℕ) → i < length ks → gap_at i ≤ high) → p.so_far ≡ (pass_of end (length ks)).so_far

  pub record Passed (seen : Seen V) : Type 0 where
    pub low_ends : PassedBy (λ e. e.low) (lows seen)
    pub high_ends : PassedBy (λ e. e.high) (highs seen)
