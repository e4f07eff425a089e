-- What formulas mean at the positions of a trace, over any scale. Assumes nothing.
use Rattle.std.specs.Prelude.{ℕ, zero, suc, ◌+◌, ◌-◌, Bool, cond, not, Some, None, Option, nat_le, nat_lt}
use Rattle.scale.specs.Laws.{Ops}
use Rattle.logic.specs.Formula.{Formula, truth, level, neg, either, both, next, yesterday, until, since}
use Rattle.logic.specs.Trace.{Trace, newest, within}
use Rattle.logic.specs.Values.{when, any, all}

-- The three ways to look at other positions, each over a test of which positions are in the window and what the operands have.
module _ {V : Type 0} (O : Ops V) where
  -- over every k from j to the newest, n positions being there, that is in the window: B at k and A at j to k - 1
  unfoldable pub until_at : ℕ → (ℕ → Bool) → (ℕ → V) → (ℕ → V) → ℕ → V
  until_at n in_window A B j = any O j (n - j) (λ k. when O (in_window k) (O.and (all O j (k - j) A) (B k)))

  -- over every k from 0 to j that is in the window: B at k and A at k + 1 to j
  unfoldable pub since_at : (ℕ → Bool) → (ℕ → V) → (ℕ → V) → ℕ → V
  since_at in_window A B j = any O 0 (suc j) (λ k. when O (in_window k) (O.and (all O (suc k) (j - k) A) (B k)))

  -- A at the position before j, if there is one and it is in the window
  unfoldable pub yesterday_at : (ℕ → Bool) → (ℕ → V) → ℕ → V
  yesterday_at in_window A zero = O.worst
  yesterday_at in_window A (suc j) = when O (in_window j) (A j)

-- the two ends between which a value lies while samples may still come
pub record Ends (V : Type 0) : Type 0 where
  pub low : V
  pub high : V

-- `read` is what a code reads as against a level
module _ {V : Type 0} (O : Ops V) (read : ℕ → ℕ → V) (σ : Trace) where
  -- the plain value: the trace is all there is
  unfoldable pub plain : Formula → ℕ → V
  plain truth j = O.best
  plain (level ch lv) j = read (σ.code j ch) lv
  plain (neg A) j = O.turned (plain A j)
  plain (either A B) j = O.or (plain A j) (plain B j)
  plain (both A B) j = O.and (plain A j) (plain B j)
  plain (next lo hi A) j = when O (nat_lt (suc j) σ.size) (when O (within σ.stamp lo hi j (suc j)) (plain A (suc j)))
  plain (yesterday lo hi A) j = yesterday_at O (λ k. within σ.stamp lo hi k j) (plain A) j
  plain (until lo hi A B) j = until_at O σ.size (within σ.stamp lo hi j) (plain A) (plain B) j
  plain (since lo hi A B) j = since_at O (λ k. within σ.stamp lo hi k j) (plain A) (plain B) j

  -- the low and the high end: next at the newest position is unknown if high is at least 1, and an until's high end also
  -- has the and of A up to the newest position while its window is not over
  unfoldable pub ends : Formula → ℕ → Ends V
  ends truth j = record { low = O.best; high = O.best }
  ends (level ch lv) j = record { low = read (σ.code j ch) lv; high = read (σ.code j ch) lv }
  ends (neg A) j = record { low = O.turned (ends A j).high; high = O.turned (ends A j).low }
  ends (either A B) j = record { low = O.or (ends A j).low (ends B j).low; high = O.or (ends A j).high (ends B j).high }
  ends (both A B) j = record { low = O.and (ends A j).low (ends B j).low; high = O.and (ends A j).high (ends B j).high }
  ends (next lo hi A) j = record {
    low = when O (nat_lt (suc j) σ.size) (when O (within σ.stamp lo hi j (suc j)) (ends A (suc j)).low);
    high = cond (nat_lt (suc j) σ.size) (when O (within σ.stamp lo hi j (suc j)) (ends A (suc j)).high) (when O (nat_le 1 hi) O.best);
  }
  ends (yesterday lo hi A) j = record {
    low = yesterday_at O (λ k. within σ.stamp lo hi k j) (λ k. (ends A k).low) j;
    high = yesterday_at O (λ k. within σ.stamp lo hi k j) (λ k. (ends A k).high) j;
  }
  ends (until lo hi A B) j = record {
    low = until_at O σ.size (within σ.stamp lo hi j) (λ k. (ends A k).low) (λ k. (ends B k).low) j;
    high = O.or
        (until_at O σ.size (within σ.stamp lo hi j) (λ k. (ends A k).high) (λ k. (ends B k).high) j)
        (when O (nat_lt (newest σ) (σ.stamp j + hi)) (all O j (σ.size - j) (λ k. (ends A k).high)));
  }
  ends (since lo hi A B) j = record {
    low = since_at O (λ k. within σ.stamp lo hi k j) (λ k. (ends A k).low) (λ k. (ends B k).low) j;
    high = since_at O (λ k. within σ.stamp lo hi k j) (λ k. (ends A k).high) (λ k. (ends B k).high) j;
  }

  -- both ends are the same
  abbrev pub settled_at : Formula → ℕ → Bool
  settled_at A j = O.same (ends A j).low (ends A j).high

  -- the high end does not pass, so the value cannot
  abbrev pub fails_at : Formula → ℕ → Bool
  fails_at A j = not (O.passes (ends A j).high)

  -- the lowest of c positions from j on that fails
  unfoldable pub lowest_failing : Formula → ℕ → ℕ → Option ℕ
  lowest_failing A j zero = None
  lowest_failing A j (suc c) = cond (fails_at A j) (Some j) (lowest_failing A (suc j) c)

  -- the lowest failing position from j on
  abbrev pub alarm_from : Formula → ℕ → Option ℕ
  alarm_from A j = lowest_failing A j (σ.size - j)
