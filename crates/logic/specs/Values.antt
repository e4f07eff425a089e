-- The or and the and of the values at a row of positions. Assumes nothing.
use Rattle.std.specs.Prelude.{ℕ, zero, suc, ◌+◌, Bool, cond}
use Rattle.scale.specs.Laws.{Ops}

module _ {V : Type 0} (O : Ops V) where
  -- the value where a test holds, else worst
  abbrev pub when : Bool → V → V
  when b a = cond b a O.worst

  -- the or, beginning with worst, of f at c positions from j on
  unfoldable pub any : ℕ → ℕ → (ℕ → V) → V
  any j zero f = O.worst
  any j (suc c) f = O.or (any j c f) (f (j + c))

  -- the and, beginning with best, of f at c positions from j on
  unfoldable pub all : ℕ → ℕ → (ℕ → V) → V
  all j zero f = O.best
  all j (suc c) f = O.and (all j c f) (f (j + c))
