-- What replaying a list of calls promises. Assumes nothing.
use Rattle.std.specs.Prelude.{◌≡◌, ℕ, ◌%◌, true, cond, List, [], ◌∷◌, length, take, drop, Ok, Err, Result, nat_le, slice_index_or}
use Rattle.refusal.specs.declared.Refusal.{Refusal}
use Rattle.refusal.specs.declared.Refusal.TheVariants as refusal
use Rattle.scale.specs.Laws.{Ops}
use Rattle.logic.specs.Trace.{blank}
use Rattle.sample.specs.declared.row.SampleRow.{SampleRow}
use Rattle.strip.specs.Ring.{Ring, contents}
use Rattle.strip.specs.declared.reading.ReadingRow.{ReadingRow}
use Rattle.evaluation.specs.Memory.{cell_at}
use Rattle.evaluation.specs.declared.memory.Cell.{Cell}
use Rattle.world.specs.Law.{Law}
use Rattle.world.specs.Steps.{held, places_in, after, answers}
use Rattle.world.specs.World.{World, unused}
use Rattle.world.specs.declared.answer.Answer.{Answer}
use Rattle.world.specs.declared.answer.Answer.TheVariants as answer
use Rattle.world.specs.declared.call.Call.{Call}
use Rattle.world.specs.declared.refused.Refused.{Refused}
use Rattle.watch.specs.Calls.{Promise}
use Rattle.watch.specs.Memory.{Memory, sizes}
use Rattle.watch.specs.Stands.{Stands, Unused, last_armed}

module _ {V : Type 0} (ops : Ops V) (read : ℕ → ℕ → V) where
  -- the calls were made one after the other, each with its answer, from memory m to memory m', and each kept its promise
  unfoldable pub Made : List Call → List (Answer V) → Memory V → Memory V → Type 0
  Made [] [] m m' = m' ≡ m
  Made [] (a ∷ xs) m m' = ⊥
  Made (c ∷ cs) [] m m' = ⊥
  Made (c ∷ cs) (a ∷ xs) m m' = (n : Memory V) × Promise ops read c m n a × Made cs xs n m'

  abbrev pub with_rows : {R : Type 0} → Ring R → List R → Ring R
  with_rows ring rows = record ring { rows = rows }

  -- memory with other rows in strip and tray, and other cells
  abbrev pub with_contents : Memory V → List SampleRow → List Cell → List ReadingRow → Memory V
  with_contents m rows cells readings = record m { strip = with_rows m.strip rows; cells = cells; tray = with_rows m.tray readings }

  -- what a caller may write over: rows and cells of positions that are not held, all cells of nodes before the last, and places of the
  -- tray that have no reading; memory then stands for the same world
  abbrev pub Free : Type 0
  Free =
      (w : World V) (m : Memory V) (rows : List SampleRow) (cells : List Cell) (readings : List ReadingRow) →
      Stands ops read w m →
      ((p : ℕ) → held w p ≡ true → slice_index_or rows (p % places_in w) blank ≡ slice_index_or m.strip.rows (p % places_in w) blank) →
      ((p : ℕ) → held w p ≡ true → cell_at cells (places_in w) (last_armed w.armed) p ≡ cell_at m.cells (places_in w) (last_armed w.armed) p) →
      contents (with_rows m.tray readings) ≡ contents m.tray →
      Stands ops read w (with_contents m rows cells readings)

-- the whole answer to a call: what it answers where it is accepted, or the refusal
abbrev pub said : {V : Type 0} → Result (Answer V) Refused → Answer V
said (Ok answer) = answer
said (Err why) = answer.Refused why

-- told and told' are the answers' places before and after
pub record Replayed {V : Type 0} (ops : Ops V) (read : ℕ → ℕ → V) (calls : List Call) (m m' : Memory V) (told told' : List (Answer V)) (r : Result (Unit {0}) Refusal) : Type 0 where
  -- refused exactly where there are fewer places for answers than calls, and then nothing changes
  pub when : r ≡ cond (nat_le (length calls) (length told)) (Ok tt) (Err refusal.Memory)
  pub refused : r ≡ Err refusal.Memory → (m' ≡ m) × (told' ≡ told)
  -- the calls were made in their order, and each answer stored; what lies past them stays
  pub made : r ≡ Ok tt → Made ops read calls (take (length calls) told') m m'
  pub past : r ≡ Ok tt → drop (length calls) told' ≡ drop (length calls) told
  -- for every world that the memory stands for, the answers are the model's, and the memory then stands for the world after
  pub standing :
      r ≡ Ok tt →
      (w : World V) →
      Stands ops read w m →
      (take (length calls) told' ≡ answers ops read (sizes m) calls w) × Stands ops read (after ops read (sizes m) calls w) m'
  -- unused objects, whatever lies in their memory, stand for the unused world; so their answers are those of a run from there
  pub begins : Unused m → Stands ops read (unused m.coming) m
  pub from_unused :
      r ≡ Ok tt →
      Unused m →
      (take (length calls) told' ≡ answers ops read (sizes m) calls (unused m.coming)) × Stands ops read (after ops read (sizes m) calls (unused m.coming)) m'
  -- the law of every run, and what is free
  pub law : Law ops read
  pub free : Free ops read
