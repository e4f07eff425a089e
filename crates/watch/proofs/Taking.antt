-- Take puts the reading that the model says on the tray, and memory follows. Assumes nothing.
use Rattle.std.proofs.Common.{◌≡◌, ℕ, suc, ◌+◌, ◌-◌, ◌%◌, ◌<◌, min, true, List, [], ◌∷◌, ◌++◌, map, length, get_or, None, sym, ap, ◌∙◌, subst, ap₂, inl, inr, arith}
use Rattle.std.proofs.ByRecursion.{All-push}
use Rattle.std.proofs.lemmas.List.{append_assoc, get_or_push, length-map, length_push, map_push}
use Rattle.std.proofs.lemmas.Bool.{cases_Bool, both_ways}
use Rattle.std.proofs.lemmas.Bool.Decides.{nat_tests}
use Rattle.scale.specs.Laws.{Ops, Laws}
use Rattle.logic.specs.Formula.{Formula, span}
use Rattle.logic.specs.Trace.{blank, trace, newest}
use Rattle.sample.specs.Limits.{stamp_limit}
use Rattle.sample.specs.declared.row.SampleRow.{SampleRow}
use Rattle.strip.specs.declared.reading.ReadingRow.{ReadingRow}
use Rattle.evaluation.specs.Memory.{row_at, cell_at}
use Rattle.world.specs.Steps.{accepted, answered, changed, formula_armed, held, held_count, held_of, places_in, reading_in, rule_in, shown, stamp_at}
use Rattle.world.specs.Tests.{call_refusal}
use Rattle.world.specs.World.{World}
use Rattle.world.specs.declared.answer.Answer.{Answer}
use Rattle.world.specs.declared.answer.Answer.TheVariants as answer
use Rattle.world.specs.declared.call.Call.TheVariants.{Take}
use Rattle.world.specs.declared.reading.Reading.{Reading}
use Rattle.watch.specs.Calls.{Takes, taken_row}
use Rattle.watch.specs.Cells.{FirstLater}
use Rattle.watch.specs.Memory.{Memory, facts_of, formula_of, last_armed, last_cell, oldest_held, row_of, sizes}
use Rattle.watch.specs.Stands.{Stands}
use Rattle.watch.proofs.Found.{below_oldest, cell_is, from_oldest, same_armed, row_is, untaken_held}
use Rattle.watch.proofs.LetGo.{let_go}
use Rattle.watch.proofs.Passed.{take_passed, TakePassed}

-- what is held with one more taken was held before
held_before : (A : Formula) (σ : List SampleRow) (k j : ℕ) → held_of A σ (suc k) j ≡ true → held_of A σ k j ≡ true
unfolding held_of
held_before A σ k j h = grind (arith, nat_tests)

module _ {V : Type 0} {ops : Ops V} (laws : Laws ops) (read : ℕ → ℕ → V) (m m' : Memory V) (w : World V) (s : Stands ops read w m) (t : TakePassed ops m) where
  abbrev now : World V
  now = changed ops read (sizes m) Take w

  some_accepted : 0 < accepted w
  some_accepted = let u = t.untaken in let n = s.accepted_is in omega arith

  -- the row on the tray is that of the reading
  row_same : taken_row ops m ≡ row_of ops (reading_in ops read w)
  row_same =
      let h = untaken_held w m s m.watch.taken (omega arith) t.untaken in
      let low = (shown ops read (rule_in w) w.capture m.watch.taken).low in
      let stamp : (row_at m.strip.rows m.watch.taken).stamp ≡ stamp_at w.capture w.taken =
      ap (λ (x : SampleRow). x.stamp) (row_is w m s t.ready.long m.watch.taken h) ∙ ap (stamp_at w.capture) s.taken_is in
      let value : ops.restored (last_cell m.watch m.cells m.watch.taken).low ≡ (shown ops read (rule_in w) w.capture w.taken).low =
      ap (λ c. ops.restored c.low) (cell_is w m s m.watch.taken h) ∙ laws.restores low ∙ ap (λ k. (shown ops read (rule_in w) w.capture k).low) s.taken_is in
      λ i. record { position = s.taken_is i; stamp = stamp i; value = ops.kept (value i) }

  -- the positions that stay are those that the model holds
  stay : FirstLater m.strip.rows (oldest_held m.watch) (m.watch.taken + 1) m.strip.last (span (formula_of m.watch)) (oldest_held m'.watch) → held_count now ≡ accepted w - oldest_held m'.watch
  stay first =
      let later : FirstLater m.strip.rows (oldest_held m.watch) (suc w.taken) (newest (trace w.capture)) (span (rule_in w)) (oldest_held m'.watch) =
      let high : m.watch.taken + 1 ≡ suc w.taken = let k = s.taken_is in omega arith in
      let by : span (formula_of m.watch) ≡ span (rule_in w) = ap (λ o. span (formula_armed o)) s.armed_is in
      let since = s.strip_last some_accepted in
      subst (λ f. f) (λ i. FirstLater m.strip.rows (oldest_held m.watch) (high i) (since i) (by i) (oldest_held m'.watch)) first in
      let n = s.accepted_is in
      (let_go (rule_in w) w.capture m.strip.rows (suc w.taken) (oldest_held m.watch) (oldest_held m'.watch) s.rises
      (λ q from below.
      ap (λ (x : SampleRow). x.stamp) (row_is w m s t.ready.long q (from_oldest w m s q from (omega arith))))
      (λ q below. elim (cases_Bool (held now q)) [
        | inl h ↦ absurd (both_ways (held w q) (below_oldest w m s q below) (held_before (rule_in w) w.capture w.taken q h))
        | inr h ↦ h
      ])
      (let u = t.untaken in let k = s.taken_is in omega arith)
      later).1

  take_now : (a : Answer V) → Takes ops m m' a → (a ≡ answered ops read Take w) × Stands ops read now m'
  take_now a does =
      let x = reading_in ops read w in
      let n = s.accepted_is in
      let k = s.taken_is in
      let u = t.untaken in
      let past = m.watch.past in
      let past' = m'.watch.past in
      let same = does.accepted_stays in
      let from = does.lets_go.from in
      let count : m'.watch.held ≡ held_count now = let c = stay does.lets_go in omega arith in
      let less : min m.strip.kept m'.watch.held ≡ m'.watch.held = let q = t.ready.kept_same in omega arith in
      let join = append_assoc w.pulled w.tray (x ∷ []) in
      let more = length_push (w.pulled ++ w.tray) x in
      let took : ℕ → Answer V = λ p. answer.Took p in
      let stamps : List (Reading V) → List ℕ = map (λ (r : Reading V). r.stamp) in (
        does.says ∙ ap took s.taken_is,
        record {
          armed_is = same_armed m.watch m'.watch does.same_rule ∙ s.armed_is;
          accepted_is = does.accepted_stays ∙ s.accepted_is;
          taken_is = let e = does.taken_more in omega arith;
          held_is = count;
          strip_taken = ap (λ r. r.taken) does.strip_is ∙ s.strip_taken;
          strip_kept = ap (λ r. r.kept) does.strip_is ∙ less ∙ count;
          strip_last = λ some. ap (λ r. r.last) does.strip_is ∙ s.strip_last some;
          rows_are = λ p h. ap (λ r. get_or r.rows (p % places_in w) blank) does.strip_is ∙ s.rows_are p (held_before (rule_in w) w.capture w.taken p h);
          cells_are = λ p h. ap (λ c. cell_at c (places_in w) (last_armed w.armed) p) does.cells_stay ∙ s.cells_are p (held_before (rule_in w) w.capture w.taken p h);
          tray_is = does.tray_more ∙ ap₂ (λ l r. l ++ r ∷ []) s.tray_is row_same ∙ sym (map_push (row_of ops) w.tray x);
          tray_kept = ap (λ r. r.kept) does.tray_is ∙ ap (λ j. j + 1) s.tray_kept ∙ sym (length_push w.tray x);
          tray_taken = ap (λ r. r.taken) does.tray_is ∙ ap (λ j. j + 1) s.tray_taken ∙ sym more ∙ ap length join;
          tray_last = λ some.
              ap (λ r. r.last) does.tray_is ∙ ap (λ (r : ReadingRow). r.stamp) row_same
              ∙ sym (get_or_push (stamps (w.pulled ++ w.tray)) x.stamp 0 (length (w.pulled ++ w.tray ++ x ∷ []) - 1) (let l = length-map (w.pulled ++ w.tray) (λ (r : Reading V). r.stamp) in omega arith))
              ∙ ap (λ l. get_or l (length (w.pulled ++ w.tray ++ x ∷ []) - 1) 0) (sym (map_push (λ (r : Reading V). r.stamp) (w.pulled ++ w.tray) x))
              ∙ ap (λ l. get_or (stamps l) (length l - 1) 0) join;
          coming_is = does.coming_stays ∙ s.coming_is;
          rises = s.rises;
          samples_fit = s.samples_fit;
          taken_some = omega arith;
          readings_fit = All-push (λ (r : Reading V). r.stamp < stamp_limit) w.tray x s.readings_fit (s.samples_fit w.taken (omega arith)).early;
        },
      )

module _ {V : Type 0} {ops : Ops V} (laws : Laws ops) (read : ℕ → ℕ → V) where
  pub take_stands : (m m' : Memory V) (a : Answer V) → call_refusal Take (facts_of ops Take m) ≡ None → Takes ops m m' a → (w : World V) → Stands ops read w m → (a ≡ answered ops read Take w) × Stands ops read (changed ops read (sizes m) Take w) m'
  take_stands m m' a e does w s = take_now laws read m m' w s (take_passed ops m e) a does
