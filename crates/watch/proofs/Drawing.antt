-- An accepted draw follows the model. Assumes nothing.
use Rattle.std.proofs.Common.{◌≡◌, ℕ, suc, ◌+◌, ◌-◌, ◌%◌, ◌<◌, ◌≤◌, min, true, false, not, ◌&&◌, ltb, leb, List, [], ◌∷◌, ◌++◌, length, get_or, set, Some, None, sym, ap, ◌∙◌, subst, ap₂, ⊎_elim, arith, length-append}
use lib.ListN.{get_or-append}
use Rattle.std.specs.Option.{option_map}
use Rattle.std.proofs.lemmas.List.{get_or_push}
use Rattle.std.proofs.lemmas.Bool.{cases_lt, leb-true}
use Rattle.scale.specs.Laws.{Ops, Laws}
use Rattle.logic.specs.Formula.{span}
use Rattle.logic.specs.Trace.{blank, trace, newest, Rising}
use Rattle.logic.proofs.Windows.{rising}
use Rattle.sample.specs.Coming.{Coming, rest}
use Rattle.sample.specs.Rows.{Fits}
use Rattle.sample.specs.declared.row.SampleRow.{SampleRow}
use Rattle.strip.specs.Ring.{Ring, contents}
use Rattle.evaluation.specs.Memory.{cell_at, kept_ends}
use Rattle.world.specs.Steps.{rule_in, accepted, places_in, held_of, many, next_sample, stamp_at, shown, settled, newly, answered, changed, formula_armed, places_armed}
use Rattle.world.specs.Tests.{call_refusal, rule_formula}
use Rattle.world.specs.World.{World}
use Rattle.world.specs.declared.answer.Answer.{Answer}
use Rattle.world.specs.declared.answer.Answer.TheVariants as answer
use Rattle.world.specs.declared.call.Call.TheVariants.{Draw}
use Rattle.world.proofs.Holding.{held_is, is_held, stamp_old}
use Rattle.world.proofs.Keep.{rising_more}
use Rattle.watch.specs.Calls.{Draws}
use Rattle.watch.specs.Cells.{FirstLater}
use Rattle.watch.specs.Memory.{Memory, facts_of, sizes, last_armed, last_node, oldest_held, stored}
use Rattle.watch.specs.declared.armed.Arming.{Arming}
use Rattle.watch.specs.Refreshed.{Refreshed}
use Rattle.watch.specs.Stands.{Stands}
use Rattle.watch.proofs.Agree.{sample_later}
use Rattle.watch.proofs.Found.{same_armed, armed_with, from_oldest, below_oldest, cell_is}
use Rattle.watch.proofs.Fresh.{Put, mirrored, row_there, fresh}
use Rattle.watch.proofs.LetGo.{let_go}
use Rattle.watch.proofs.Newly.{counted_newly}
use Rattle.watch.proofs.Passed.{DrawPassed, draw_passed}

module _ {V : Type 0} {ops : Ops V} (laws : Laws ops) (read : ℕ → ℕ → V) (m m' : Memory V) (w : World V) (s : Stands ops read w m) (t : DrawPassed ops m) (arming : Arming) (armed : m.watch.arming ≡ Some arming) (a : Answer V) (does : Draws m m' a) (within : m.strip.kept ≤ length m.strip.rows) (fit : Fits (get_or m.coming.samples 0 blank)) where
  abbrev σ : List SampleRow
  σ = w.capture

  abbrev x : SampleRow
  x = next_sample w

  next_is : get_or m.coming.samples 0 blank ≡ next_sample w
  next_is = ap (λ (c : Coming). get_or c.samples 0 blank) s.coming_is

  formula_is : rule_in w ≡ rule_formula arming.rule
  formula_is = ap formula_armed (armed_with w m s arming armed)

  places_are : places_in w ≡ length m.strip.rows
  places_are = sym (t.ready.long ∙ ap places_armed s.armed_is)

  node_is : last_armed w.armed ≡ last_node arming.rule
  node_is = ap last_armed (armed_with w m s arming armed)

  size : length (w.capture ++ next_sample w ∷ []) ≡ length w.capture + 1
  size = length-append w.capture (next_sample w ∷ [])

  free : m.strip.kept < length m.strip.rows
  free = let k = t.ready.kept_same in let l = t.ready.long in omega (arith, t.not_full)

  up : Rising (trace (w.capture ++ next_sample w ∷ []))
  up = rising_more w.capture (next_sample w) s.rises (sample_later laws read w m s ∙ t.strip_later)

  -- a position below the oldest held has a stamp at least the span before the newest
  far : (q : ℕ) → q < oldest_held m.watch → stamp_at w.capture q + span (rule_in w) ≤ newest (trace w.capture)
  far q l = let n = s.accepted_is in let past = m.watch.past in grind (arith, is_held (rule_in w) w.capture w.taken q, below_oldest w m s q l)

  put : Put ops read arming.rule w.capture (next_sample w) m.strip.rows m'.strip.rows m.cells (oldest_held m.watch) m.strip.last
  put =
      let n = s.accepted_is in
      let past = m.watch.past in
      let k = t.ready.kept_same in
      let f = free in
      record {
        up = up;
        fits = λ j l. ⊎_elim
            (λ (c : j < length w.capture). subst Fits (sym (get_or-append w.capture (next_sample w ∷ []) blank j c)) (s.samples_fit j c))
            (λ (c : length w.capture ≤ j).
            let z = size in
            subst Fits (next_is ∙ sym (get_or_push w.capture (next_sample w) blank j (let e : length w.capture ≡ j = omega arith in e))) fit)
            (cases_lt j (length w.capture));
        some = omega arith;
        begun = omega arith;
        room = omega arith;
        put =
            ap (λ (r : Ring SampleRow). r.rows) does.strip_is
            ∙ ap₂ (λ p r. set m.strip.rows (p % length m.strip.rows) r) s.strip_taken next_is;
        mirror = λ p b c. ap (λ C. get_or m.strip.rows (p % C) blank) (sym places_are) ∙ s.rows_are p (from_oldest w m s p b (omega arith));
        last_is = s.strip_last;
        gone = λ q l. subst (λ A. stamp_at w.capture q + span A ≤ newest (trace w.capture)) formula_is (far q l);
        showed = λ p b c.
            ap₂ (λ C n. cell_at m.cells C n p) t.ready.long (sym (ap (λ o. last_armed (option_map stored o)) armed))
            ∙ cell_is w m s p (from_oldest w m s p b (omega arith))
            ∙ ap (λ A. kept_ends ops (shown ops read A w.capture p)) formula_is;
      }

  newest_is : newest (trace (w.capture ++ next_sample w ∷ [])) ≡ m'.strip.last
  newest_is =
      let z = size in
      ap (λ r. r.stamp) (get_or_push w.capture (next_sample w) blank (length (w.capture ++ next_sample w ∷ []) - 1) (let e : length w.capture ≡ length (w.capture ++ next_sample w ∷ []) - 1 = omega arith in e))
      ∙ sym (ap (λ r. r.stamp) next_is)
      ∙ sym (ap (λ (r : Ring SampleRow). r.last) does.strip_is)

  -- what was not held is not held any more
  stays_gone : (q : ℕ) → q < oldest_held m.watch → held_of (rule_in w) (w.capture ++ next_sample w ∷ []) w.taken q ≡ false
  stays_gone q l =
      let n = s.accepted_is in
      let past = m.watch.past in
      let z = size in
      let e = stamp_old w.capture (next_sample w ∷ []) q (omega arith) in
      let v = stamp_old w.capture (next_sample w ∷ []) (length w.capture - 1) (omega arith) in
      let u = rising (trace (w.capture ++ next_sample w ∷ [])) up (length w.capture - 1) (length (w.capture ++ next_sample w ∷ []) - 1) (omega arith) (omega arith) in
      grind (arith, is_held (rule_in w) w.capture w.taken q, below_oldest w m s q l, held_is (rule_in w) (w.capture ++ next_sample w ∷ []) w.taken q)

  lets_go : FirstLater m'.strip.rows (oldest_held m.watch) w.taken (newest (trace (w.capture ++ next_sample w ∷ []))) (span (rule_in w)) (oldest_held m'.watch)
  lets_go =
      subst (λ f. f) (λ i. FirstLater m'.strip.rows (oldest_held m.watch) (s.taken_is i) (sym newest_is i) (span (formula_armed (s.armed_is i))) (oldest_held m'.watch)) does.lets_go

  let_go_now :
      ((q : ℕ) → q < length (w.capture ++ next_sample w ∷ []) → held_of (rule_in w) (w.capture ++ next_sample w ∷ []) w.taken q ≡ leb (oldest_held m'.watch) q)
      × (many (held_of (rule_in w) (w.capture ++ next_sample w ∷ []) w.taken) (length (w.capture ++ next_sample w ∷ [])) ≡ length (w.capture ++ next_sample w ∷ []) - oldest_held m'.watch)
  let_go_now =
      let z = size in
      let few = s.taken_some in
      let_go (rule_in w) (w.capture ++ next_sample w ∷ []) m'.strip.rows w.taken (oldest_held m.watch) (oldest_held m'.watch) up
      (λ q b c. ap (λ r. r.stamp) (row_there put q b c))
      stays_gone
      (omega arith)
      lets_go

  module _ (fresh-Cells : Refreshed ops read arming.rule m'.strip.rows (oldest_held m.watch) m.watch.accepted m.watch.taken m.strip.last m.cells m'.cells does.count) where
    refreshed : Refreshed ops read arming.rule m'.strip.rows (oldest_held m.watch) (length w.capture) w.taken m.strip.last m.cells m'.cells does.count
    refreshed =
        subst (λ n. Refreshed ops read arming.rule m'.strip.rows (oldest_held m.watch) n w.taken m.strip.last m.cells m'.cells does.count) s.accepted_is
        (subst (λ n. Refreshed ops read arming.rule m'.strip.rows (oldest_held m.watch) m.watch.accepted n m.strip.last m.cells m'.cells does.count) s.taken_is fresh-Cells)

    count_is : does.count ≡ newly ops read w (next_sample w)
    count_is =
        let open-still = m.watch.untaken in
        let n = s.accepted_is in
        let k = s.taken_is in
        counted_newly laws read put refreshed (omega arith) s.taken_some
        ∙ sym (ap (λ A. many (λ j. leb w.taken j && (settled ops read A (w.capture ++ next_sample w ∷ []) j && not (ltb j (accepted w) && settled ops read A w.capture j))) (suc (accepted w))) formula_is)

    pub draw_now : (a ≡ answered ops read Draw w) × Stands ops read (changed ops read (sizes m) Draw w) m'
    draw_now =
        let z = size in
        let n = s.accepted_is in
        let more = does.accepted_more in
        let past = m.watch.past in
        let past' = m'.watch.past in
        let from = does.lets_go.from in
        let to = does.lets_go.to in
        let k = t.ready.kept_same in
        let all = let_go_now.1 in
        let held-now : m'.watch.held ≡ many (held_of (rule_in w) (w.capture ++ next_sample w ∷ []) w.taken) (length (w.capture ++ next_sample w ∷ [])) = omega arith in
        let oldest : (p : ℕ) → held_of (rule_in w) (w.capture ++ next_sample w ∷ []) w.taken p ≡ true → (oldest_held m'.watch ≤ p) × (p < length (w.capture ++ next_sample w ∷ [])) = λ p h.
        let l = (held_is (rule_in w) (w.capture ++ next_sample w ∷ []) w.taken p h).0 in
        (leb-true _ _ (sym (let_go_now.0 p l) ∙ h), l) in
        let drew : ℕ → ℕ → Answer V = λ p c. answer.Drew (record { position = p; settled = c }) in (
          does.says ∙ ap₂ drew s.accepted_is count_is,
          record {
            armed_is = same_armed m.watch m'.watch does.same_rule ∙ s.armed_is;
            accepted_is = omega arith;
            taken_is = does.taken_stays ∙ s.taken_is;
            held_is = held-now;
            strip_taken = ap (λ (r : Ring SampleRow). r.taken) does.strip_is ∙ (let e = s.strip_taken in let f : m.strip.taken + 1 ≡ length (w.capture ++ next_sample w ∷ []) = omega arith in f);
            strip_kept = ap (λ (r : Ring SampleRow). r.kept) does.strip_is ∙ (let f : min (m.strip.kept + 1) m'.watch.held ≡ m'.watch.held = omega arith in f) ∙ held-now;
            strip_last = λ _. sym newest_is;
            rows_are = λ p h.
                let o = oldest p h in
                ap (λ C. get_or m'.strip.rows (p % C) blank) places_are ∙ mirrored put p (omega arith) o.1;
            cells_are = λ p h.
                let o = oldest p h in
                ap₂ (λ C i. cell_at m'.cells C i p) places_are node_is
                ∙ fresh put laws refreshed p (omega arith) o.1
                ∙ sym (ap (λ A. kept_ends ops (shown ops read A (w.capture ++ next_sample w ∷ []) p)) formula_is);
            tray_is = ap contents does.tray_stays ∙ s.tray_is;
            tray_kept = ap (λ r. r.kept) does.tray_stays ∙ s.tray_kept;
            tray_taken = ap (λ r. r.taken) does.tray_stays ∙ s.tray_taken;
            tray_last = λ some. ap (λ r. r.last) does.tray_stays ∙ s.tray_last some;
            coming_is = does.coming_is ∙ ap rest s.coming_is;
            rises = up;
            samples_fit = put.fits;
            taken_some = let few = s.taken_some in omega arith;
            readings_fit = s.readings_fit;
          },
        )

module _ {V : Type 0} {ops : Ops V} (laws : Laws ops) (read : ℕ → ℕ → V) where
  pub draw_stands :
      (m m' : Memory V) (a : Answer V) →
      call_refusal Draw (facts_of ops Draw m) ≡ None →
      (does : Draws m m' a) →
      m.strip.kept ≤ length m.strip.rows →
      Fits (get_or m.coming.samples 0 blank) →
      (arming : Arming) →
      m.watch.arming ≡ Some arming →
      Refreshed ops read arming.rule m'.strip.rows (oldest_held m.watch) m.watch.accepted m.watch.taken m.strip.last m.cells m'.cells does.count →
      (w : World V) →
      Stands ops read w m →
      (a ≡ answered ops read Draw w) × Stands ops read (changed ops read (sizes m) Draw w) m'
  draw_stands m m' a e does within fit arming armed anew w s = draw_now laws read m m' w s (draw_passed ops m e) arming armed a does within fit anew
