-- What every call keeps, and what the answers add up to. Assumes nothing.
use Rattle.std.proofs.Common.{◌≡◌, ℕ, ◌+◌, ◌-◌, ◌<◌, ◌≤◌, true, eqb, ltb, ◌⊎◌, List, [], ◌∷◌, ◌++◌, map, length, get_or, Some, None, Option, sym, refl, ap, ◌∙◌, subst, inl, inr, append_assoc, append-nil, add-zero, zero-add, add-one, arith, length-append}
use mathlib.Core.List.{map-append}
use lib.ListN.{length-map, get_or-map}
use lib.Seq.{get_or-append_seam}
use Rattle.std.proofs.ByRecursion.{All-push, All-weaker}
use Rattle.std.proofs.lemmas.Bool.{cases_eq, or_cases, and_parts, and_from, ltb-true, eqb-true, eq-eqb}
use Rattle.std.specs.List.{range_with_len, AllByRecursion}
use Rattle.logic.proofs.Lists.{encloses}
use Rattle.logic.specs.Formula.{Formula, span}
use Rattle.logic.specs.Meaning.{plain}
use Rattle.logic.specs.Trace.{blank, trace, Rising}
use Rattle.sample.specs.Coming.{Coming, rest}
use Rattle.sample.specs.declared.row.SampleRow.{SampleRow}
use Rattle.scale.proofs.Lattice.{antisym}
use Rattle.scale.specs.Laws.{Ops, Laws}
use Rattle.world.proofs.Holding.{held_draw, held_take, held_none, stamp_old}
use Rattle.world.proofs.Moves.{Move, stays, arms, draws_one, takes_one, pulls_one, moves}
use Rattle.world.proofs.Tallies.{counting_join}
use Rattle.world.specs.Law.{draws, takes, pulls, if_drew, peeked, Reads}
use Rattle.world.specs.Steps.{rule_in, formula_armed, places_in, places_armed, fits_armed, next_sample, accepted, held_count, later, stamp_at, settled, reading_in, oldest, changed, step, after, answers}
use Rattle.world.specs.Tests.{rule_formula}
use Rattle.world.specs.World.{Sizes, Armed, World}
use Rattle.world.specs.declared.answer.Answer.{Answer}
use Rattle.world.specs.declared.call.Call.{Call}
use Rattle.world.specs.declared.call.Call.TheVariants.{Pull}
use Rattle.world.specs.declared.reading.Reading.{Reading}

-- a sample that is later than the last keeps the stamps rising
pub rising_more : (σ : List SampleRow) (x : SampleRow) → Rising (trace σ) → later (map (λ (y : SampleRow). y.stamp) σ) x.stamp ≡ true → Rising (trace (σ ++ x ∷ []))
unfolding later
rising_more σ x up t a b l r =
    let n : length (σ ++ x ∷ []) ≡ length σ + 1 = length-append σ (x ∷ []) in
    elim (cases_eq b (length σ)) [
      | inl e ↦ (
          let new : stamp_at (σ ++ x ∷ []) b ≡ x.stamp = rw e (ap (λ y. y.stamp) (get_or-append_seam σ x [] blank)) in
          let old = stamp_old σ (x ∷ []) a (omega arith) in
          let m = length-map σ (λ y. y.stamp) in
          let ts = map (λ (y : SampleRow). y.stamp) σ in
          elim (or_cases (eqb (length ts) 0) (ltb (get_or ts (length ts - 1) 0) x.stamp) t) [
            | inl z ↦ (let y = eqb-true (length ts) 0 z in absurd (omega arith))
            | inr z ↦ (
                let y = ltb-true (get_or ts (length ts - 1) 0) x.stamp z in
                let last : get_or (map (λ (y : SampleRow). y.stamp) σ) (length (map (λ (y : SampleRow). y.stamp) σ) - 1) 0 ≡ stamp_at σ (length σ - 1) = rw m (get_or-map (λ y. y.stamp) σ (length σ - 1) blank) in
                elim (cases_eq a (length σ - 1)) [
                  | inl q ↦ (let same : stamp_at σ a ≡ stamp_at σ (length σ - 1) = ap (stamp_at σ) q in omega arith)
                  | inr q ↦ (let u = up a (length σ - 1) (omega arith) (omega arith) in omega arith)
                ])
          ])
      | inr e ↦ (
          let y = stamp_old σ (x ∷ []) a (omega arith) in
          let z = stamp_old σ (x ∷ []) b (omega arith) in
          let u = up a b l (omega arith) in
          omega arith)
    ]

-- never armed, and no sample accepted
pub record Fresh (o : Option Armed) (σ : List SampleRow) : Type 0 where
  pub unarmed : o ≡ None
  pub empty : length σ ≡ 0

-- armed, with memory that fits and has more places than the span
pub record Ready (s : Sizes) (o : Option Armed) : Type 0 where
  pub armed : Armed
  pub armed_is : o ≡ Some armed
  pub spacious : span (formula_armed o) < places_armed o
  pub fits : fits_armed o s ≡ true

module _ {V : Type 0} (ops : Ops V) (read : ℕ → ℕ → V) (s : Sizes) (source : Coming) where
  pub record Kept (w : World V) : Type 0 where
    pub standing : Fresh w.armed w.capture ⊎ Ready s w.armed
    pub whole : w.capture ++ w.coming.samples ≡ source.samples
    pub ends_as : w.coming.ending ≡ source.ending
    pub up : Rising (trace w.capture)
    pub few : w.taken ≤ accepted w
    pub order : map (λ (r : Reading V). r.position) (w.pulled ++ w.tray) ≡ range_with_len 0 w.taken
    pub room : held_count w ≤ places_in w
    pub tray_room : length w.tray ≤ s.tray_places
    pub right : AllByRecursion (Reads ops read (rule_in w) w.capture) (w.pulled ++ w.tray)

module _ {V : Type 0} {ops : Ops V} (laws : Laws ops) (read : ℕ → ℕ → V) (s : Sizes) (source : Coming) where
  -- a reading stays right with one sample more
  still_right : (A : Formula) (σ : List SampleRow) (x : SampleRow) (r : Reading V) → Reads ops read A σ r → Reads ops read A (σ ++ x ∷ []) r
  still_right A σ x r t =
      let join : (more : List SampleRow) → (σ ++ x ∷ []) ++ more ≡ σ ++ x ∷ more = λ more. append_assoc σ (x ∷ []) more in
      record {
        seen = let n = length-append σ (x ∷ []) in let a = t.seen in omega arith;
        stamp_is = t.stamp_is ∙ sym (stamp_old σ (x ∷ []) r.position t.seen);
        value_is = λ more R. t.value_is (x ∷ more) (record { lawful = rw (join more) at R.lawful; waited = rw (join more) at R.waited }) ∙ ap (λ y. plain ops read (trace y) A r.position) (sym (join more));
      }

  -- what take reads off is right
  read_right : (w : World V) → w.taken < accepted w → settled ops read (rule_in w) w.capture w.taken ≡ true → Reads ops read (rule_in w) w.capture (reading_in ops read w)
  read_right w l e = record {
    seen = l;
    stamp_is = refl;
    value_is = λ more R.
        let b = encloses laws read (rule_in w) w.capture more w.taken R.lawful l R.waited in
        let m = (laws.same_is _ _).0 e in
        antisym laws b.0 (rw m b.1);
  }

  pub kept_by_move : (w : World V) → Kept ops read s source w → {w' : World V} {a : Answer V} → Move ops read s w w' a → Kept ops read s source w'
  kept_by_move w K (stays q) = K
  kept_by_move w K (arms rule e fits) =
      let p = and_parts _ _ fits in
      let q = and_parts _ _ p.1 in
      let none = eqb-true (accepted w) 0 p.0 in
      record {
        standing = inr (record {
          armed = _;
          armed_is = refl;
          spacious = ltb-true _ _ (and_parts _ _ q.0).0;
          fits = and_from _ _ (eq-eqb s.places s.places refl) q.1;
        });
        whole = K.whole;
        ends_as = K.ends_as;
        up = K.up;
        few = K.few;
        order = K.order;
        room = held_none (rule_formula rule) w.capture w.taken s.places none;
        tray_room = K.tray_room;
        right = All-weaker _ (Reads ops read (rule_formula rule) w.capture) (λ r t. let a = t.seen in absurd (omega arith)) _ K.right;
      }
  kept_by_move w K (draws_one b e f r t) =
      let x = next_sample w in
      let up = rising_more w.capture x K.up t in
      record {
        standing = elim K.standing [ inl y ↦ (absurd cc) | inr y ↦ inr y ];
        whole = append_assoc w.capture (x ∷ []) (rest w.coming).samples ∙ ap (λ y. w.capture ++ y) (sym r) ∙ K.whole;
        ends_as = K.ends_as;
        up = up;
        few = let n = length-append w.capture (x ∷ []) in let a = K.few in omega arith;
        order = K.order;
        room = let h = held_draw (rule_in w) w.capture x w.taken up in let m = K.room in omega arith;
        tray_room = K.tray_room;
        right = All-weaker _ (Reads ops read (rule_in w) (w.capture ++ x ∷ [])) (still_right (rule_in w) w.capture x) _ K.right;
      }
  kept_by_move w K (takes_one b e l t free) =
      let R = reading_in ops read w in
      let join : w.pulled ++ (w.tray ++ R ∷ []) ≡ (w.pulled ++ w.tray) ++ R ∷ [] = sym (append_assoc w.pulled w.tray (R ∷ [])) in
      record {
        standing = K.standing;
        whole = K.whole;
        ends_as = K.ends_as;
        up = K.up;
        few = l;
        order = ap (map (λ r. r.position)) join ∙ map-append (λ r. r.position) (w.pulled ++ w.tray) (R ∷ []) ∙ ap (λ x. x ++ w.taken ∷ []) K.order ∙ sym (ap (range_with_len 0) (sym (add-one w.taken)) ∙ counting_join 0 w.taken 1 ∙ ap (λ k. range_with_len 0 w.taken ++ k ∷ []) (zero-add w.taken));
        room = let h = held_take (rule_in w) w.capture w.taken in let m = K.room in omega arith;
        tray_room = let n = length-append w.tray (R ∷ []) in omega arith;
        right = rw join (All-push (Reads ops read (rule_in w) w.capture) _ _ K.right (read_right w l t));
      }
  kept_by_move w K (pulls_one e) =
      let r = oldest ops read w in
      let rs = (changed ops read s Pull w).tray in
      let join : w.pulled ++ w.tray ≡ (w.pulled ++ r ∷ []) ++ rs = ap (λ x. w.pulled ++ x) e ∙ sym (append_assoc w.pulled (r ∷ []) rs) in
      record {
        standing = K.standing;
        whole = K.whole;
        ends_as = K.ends_as;
        up = K.up;
        few = K.few;
        order = ap (map (λ r. r.position)) (sym join) ∙ K.order;
        room = K.room;
        tray_room = let n = ap length e in let m = K.tray_room in omega arith;
        right = subst (λ x. AllByRecursion (Reads ops read (rule_in w) w.capture) x) join K.right;
      }

  pub kept : (cs : List Call) (w : World V) → Kept ops read s source w → Kept ops read s source (after ops read s cs w)
  unfolding after
  kept [] w K = K
  kept (c ∷ cs) w K = kept cs _ (kept_by_move w K (moves ops read s c w))

module _ {V : Type 0} (ops : Ops V) (read : ℕ → ℕ → V) (s : Sizes) where
  drawn_move : (w : World V) {w' : World V} {a : Answer V} → Move ops read s w w' a → (xs : List (Answer V)) → accepted w' + draws xs ≡ accepted w + draws (a ∷ xs)
  unfolding draws
  drawn_move w (stays q) xs = let n = q.no_draw xs in omega arith
  drawn_move w (draws_one b e f r t) xs = let n = length-append w.capture (next_sample w ∷ []) in omega arith
  drawn_move w _ xs = refl

  -- one sample for each draw that was answered
  pub drawn : (cs : List Call) (w : World V) → accepted (after ops read s cs w) ≡ accepted w + draws (answers ops read s cs w)
  unfolding after answers draws
  drawn [] w = sym (add-zero _)
  drawn (c ∷ cs) w = drawn cs _ ∙ drawn_move w (moves ops read s c w) _

  taken_move : (w : World V) {w' : World V} {a : Answer V} → Move ops read s w w' a → (xs : List (Answer V)) → w'.taken + takes xs ≡ w.taken + takes (a ∷ xs)
  unfolding takes
  taken_move w (stays q) xs = let n = q.no_take xs in omega arith
  taken_move w (takes_one b e l t f) xs = omega arith
  taken_move w _ xs = refl

  -- one position for each take that was answered
  pub taken : (cs : List Call) (w : World V) → (after ops read s cs w).taken ≡ w.taken + takes (answers ops read s cs w)
  unfolding after answers takes
  taken [] w = sym (add-zero _)
  taken (c ∷ cs) w = taken cs _ ∙ taken_move w (moves ops read s c w) _

  peeked_move : (w : World V) {w' : World V} {a : Answer V} → Move ops read s w w' a → w'.capture ≡ w.capture ++ if_drew a (next_sample w)
  peeked_move w (stays q) = sym (ap (λ x. w.capture ++ x) (q.no_peek (next_sample w)) ∙ append-nil w.capture)
  peeked_move w (draws_one b e f r t) = refl
  peeked_move w _ = sym (append-nil w.capture)

  -- the capture grows by what peek answered
  pub captured : (cs : List Call) (w : World V) → (after ops read s cs w).capture ≡ w.capture ++ peeked ops read s cs w
  unfolding after peeked
  captured [] w = sym (append-nil w.capture)
  captured (c ∷ cs) w =
      captured cs (step ops read s c w).0
      ∙ ap (λ x. x ++ peeked ops read s cs (step ops read s c w).0) (peeked_move w (moves ops read s c w))
      ∙ append_assoc w.capture (if_drew (step ops read s c w).1 (next_sample w)) (peeked ops read s cs (step ops read s c w).0)

  pulled_move : (w : World V) {w' : World V} {a : Answer V} → Move ops read s w w' a → (xs : List (Answer V)) → w'.pulled ++ pulls xs ≡ w.pulled ++ pulls (a ∷ xs)
  unfolding pulls
  pulled_move w (stays q) xs = ap (λ x. w.pulled ++ x) (sym (q.no_pull xs))
  pulled_move w (pulls_one e) xs = append_assoc w.pulled (oldest ops read w ∷ []) (pulls xs)
  pulled_move w _ xs = refl

  -- the readings that were pulled are those that pulls answered
  pub pulled : (cs : List Call) (w : World V) → (after ops read s cs w).pulled ≡ w.pulled ++ pulls (answers ops read s cs w)
  unfolding after answers pulls
  pulled [] w = sym (append-nil _)
  pulled (c ∷ cs) w = pulled cs _ ∙ pulled_move w (moves ops read s c w) _
