-- What a scale is: a bounded distributive lattice with an involution, a passing test and a stored form. Assumes nothing.
use Rattle.std.specs.Prelude.{◌≡◌, Bool, true, false, ℤ, Decides}

-- what the functions of a scale compute
pub record Ops (S : Type 0) : Type 0 where
  pub or : S → S → S
  pub and : S → S → S
  pub turned : S → S
  pub worst : S
  pub best : S
  pub same : S → S → Bool
  pub passes : S → Bool
  pub kept : S → ℤ
  pub restored : ℤ → S

-- a is at most b
abbrev pub Below : {S : Type 0} → Ops S → S → S → Type 0
Below ops a b = ops.and a b ≡ a

pub record Laws {S : Type 0} (ops : Ops S) : Type 0 where
  -- a distributive lattice
  pub or_comm : (a b : S) → ops.or a b ≡ ops.or b a
  pub or_assoc : (a b c : S) → ops.or (ops.or a b) c ≡ ops.or a (ops.or b c)
  pub and_comm : (a b : S) → ops.and a b ≡ ops.and b a
  pub and_assoc : (a b c : S) → ops.and (ops.and a b) c ≡ ops.and a (ops.and b c)
  pub or_absorbs : (a b : S) → ops.or a (ops.and a b) ≡ a
  pub and_absorbs : (a b : S) → ops.and a (ops.or a b) ≡ a
  pub distributes : (a b c : S) → ops.and a (ops.or b c) ≡ ops.or (ops.and a b) (ops.and a c)
  -- with a least and a greatest value
  pub worst-or : (a : S) → ops.or ops.worst a ≡ a
  pub best-and : (a : S) → ops.and ops.best a ≡ a
  -- and an involution that swaps or and and
  pub turned_twice : (a : S) → ops.turned (ops.turned a) ≡ a
  pub turned_or : (a b : S) → ops.turned (ops.or a b) ≡ ops.and (ops.turned a) (ops.turned b)
  -- the best value passes, the worst fails, and what is at least a passing value passes
  pub best_passes : ops.passes ops.best ≡ true
  pub worst_fails : ops.passes ops.worst ≡ false
  pub monotone : (a b : S) → Below ops a b → ops.passes a ≡ true → ops.passes b ≡ true
  -- same tells equal values from others, and a value comes back from the number that is kept of it
  pub same_is : (a b : S) → Decides (ops.same a b) (a ≡ b)
  pub restores : (a : S) → ops.restored (ops.kept a) ≡ a
