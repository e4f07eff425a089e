-- One pass over positions, as the code makes it for until and since. Assumes nothing.
use Rattle.std.specs.Prelude.{ℕ, zero, suc, Bool, cond}
use Rattle.scale.specs.Laws.{Ops}

-- the or of what was found, and the and of the first operand so far
pub record Pass (V : Type 0) : Type 0 where
  pub found : V
  pub so_far : V

module _ {V : Type 0} (O : Ops V) where
  -- one position more, with a and b there
  abbrev pub step : Pass V → Bool → V → V → Pass V
  step p inside a b = record { found = cond inside (O.or p.found (O.and p.so_far b)) p.found; so_far = O.and p.so_far a }

  -- over the first c positions
  unfoldable pub run : (ℕ → Bool) → (ℕ → V) → (ℕ → V) → ℕ → Pass V
  run W A B zero = record { found = O.worst; so_far = O.best }
  run W A B (suc c) = step (run W A B c) (W c) (A c) (B c)
