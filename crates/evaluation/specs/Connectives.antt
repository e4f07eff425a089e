-- The two ends of a connective from those of its operands. Assumes nothing.
use Rattle.std.specs.Prelude.{ℕ, suc, ◌+◌, ◌-◌, cond, nat_le, nat_lt}
use Rattle.scale.specs.Laws.{Ops}
use Rattle.logic.specs.Values.{when, all}
use Rattle.logic.specs.Trace.{Trace, newest, within}
use Rattle.logic.specs.Meaning.{Ends, until_at, since_at, yesterday_at}

module _ {V : Type 0} (O : Ops V) (σ : Trace) where
  abbrev pub until_ends : ℕ → ℕ → (ℕ → Ends V) → (ℕ → Ends V) → ℕ → Ends V
  until_ends lo hi A B j = record {
    low = until_at O σ.size (within σ.stamp lo hi j) (λ k. (A k).low) (λ k. (B k).low) j;
    high = O.or
        (until_at O σ.size (within σ.stamp lo hi j) (λ k. (A k).high) (λ k. (B k).high) j)
        (when O (nat_lt (newest σ) (σ.stamp j + hi)) (all O j (σ.size - j) (λ k. (A k).high)));
  }

  abbrev pub since_ends : ℕ → ℕ → (ℕ → Ends V) → (ℕ → Ends V) → ℕ → Ends V
  since_ends lo hi A B j = record {
    low = since_at O (λ k. within σ.stamp lo hi k j) (λ k. (A k).low) (λ k. (B k).low) j;
    high = since_at O (λ k. within σ.stamp lo hi k j) (λ k. (A k).high) (λ k. (B k).high) j;
  }

  abbrev pub next_ends : ℕ → ℕ → (ℕ → Ends V) → ℕ → Ends V
  next_ends lo hi A j = record {
    low = when O (nat_lt (suc j) σ.size) (when O (within σ.stamp lo hi j (suc j)) (A (suc j)).low);
    high = cond (nat_lt (suc j) σ.size) (when O (within σ.stamp lo hi j (suc j)) (A (suc j)).high) (when O (nat_le 1 hi) O.best);
  }

  abbrev pub yesterday_ends : ℕ → ℕ → (ℕ → Ends V) → ℕ → Ends V
  yesterday_ends lo hi A j = record {
    low = yesterday_at O (λ k. within σ.stamp lo hi k j) (λ k. (A k).low) j;
    high = yesterday_at O (λ k. within σ.stamp lo hi k j) (λ k. (A k).high) j;
  }
