-- A strip as plain values, what each call does to it, and the records that it keeps. Assumes nothing.
use Rattle.std.specs.Prelude.{ℕ, ◌+◌, ◌-◌, ◌%◌, ◌<◌, ◌≤◌, min, cond, ◌&&◌, List, ◌++◌, length, take, drop, Some, None, Ok, Err, Option, Result, ◌==◌, nat_le, nat_lt, slice_set}
use Rattle.refusal.specs.declared.Refusal.{Refusal}
use Rattle.refusal.specs.declared.Refusal.TheVariants.{Backward, TrayFull}
use Rattle.strip.specs.declared.strip.Strip.{Strip}

pub record Ring (R : Type 0) : Type 0 where
  pub rows : List R
  pub taken : ℕ
  pub kept : ℕ
  pub last : ℕ

abbrev pub ring_of : {R : Type 0} → Strip R → Ring R
ring_of s = record { rows = s.rows.now; taken = s.taken; kept = s.kept; last = s.last }

-- a ring over the rows that has taken nothing yet
abbrev pub unused : {R : Type 0} → List R → Ring R
unused rows = record { rows = rows; taken = 0; kept = 0; last = 0 }

-- the place of the record of this number
abbrev pub place_of : {R : Type 0} → Ring R → ℕ → ℕ
place_of s number = number % length s.rows

-- the number of the oldest record that is kept; with nothing kept, of the next that will be
abbrev pub oldest : {R : Type 0} → Ring R → ℕ
oldest s = s.taken - s.kept

-- the ring took a record of this number, and still keeps it
pub record Keeps {R : Type 0} (s : Ring R) (number : ℕ) : Type 0 where
  pub not_gone : oldest s ≤ number
  pub came : number < s.taken

-- why a record with this stamp is refused, if it is: there is no free place, or the stamp is not later than the last that was ever taken
abbrev pub push_refusal : {R : Type 0} → Ring R → ℕ → Option Refusal
push_refusal s stamp =
    cond (s.kept == length s.rows) (Some TrayFull)
    (cond (nat_lt 0 s.taken && nat_le stamp s.last) (Some Backward) None)

-- the answer to a push
abbrev pub pushing : {R : Type 0} → Ring R → ℕ → Result (Unit {0}) Refusal
pushing s stamp = elim (push_refusal s stamp) [ Some why ↦ Err why | None ↦ Ok tt ]

-- the ring with one more record
abbrev pub with_row : {R : Type 0} → Ring R → ℕ → R → Ring R
with_row s stamp row =
    record { rows = slice_set s.rows (place_of s s.taken) row; taken = s.taken + 1; kept = s.kept + 1; last = stamp }

-- the ring after a push: a refused one leaves it as it was
abbrev pub pushed : {R : Type 0} → Ring R → ℕ → R → Ring R
pushed s stamp row = elim (push_refusal s stamp) [ Some why ↦ s | None ↦ with_row s stamp row ]

-- the ring with its oldest record let go
abbrev pub without_oldest : {R : Type 0} → Ring R → Ring R
without_oldest s = record s { kept = s.kept - 1 }

-- the ring with its oldest records let go until at most this many are kept
abbrev pub with_newest : {R : Type 0} → Ring R → ℕ → Ring R
with_newest s count = record s { kept = min s.kept count }

-- the records that are kept, oldest first: from the place of the oldest on, and round the end to the first place
abbrev pub contents : {R : Type 0} → Ring R → List R
contents s = take s.kept (drop (place_of s (oldest s)) (s.rows ++ s.rows))
