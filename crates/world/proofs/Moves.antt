-- How a call comes to its outcome, and the five ways in which one can change things. Assumes nothing.
use Rattle.std.proofs.Common.{◌≡◌, ℕ, zero, suc, not, ◌&&◌, ◌||◌, ◌∙◌, ◌<◌, Bool, true, false, eqb, ltb, ◌⊎◌, List, [], ◌∷◌, length, get_or, is_some, Some, None, Option, sym, refl, ap, subst, inl, inr}
use Rattle.std.proofs.lemmas.Bool.{or_parts, and_parts, eq-eqb, cond_both, true≢false, ltb-true, eqb-false, not-true}
use Rattle.std.specs.List.{AllByRecursion}
use Rattle.logic.specs.Trace.{blank}
use Rattle.refusal.specs.Table.{number_of}
use Rattle.refusal.specs.declared.Refusal.{Refusal}
use Rattle.rule.specs.declared.rule.Rule.{Rule}
use Rattle.sample.specs.Coming.{Coming, rest}
use Rattle.sample.specs.declared.row.SampleRow.{SampleRow}
use Rattle.scale.specs.Laws.{Ops}
use Rattle.world.specs.Law.{draws, takes, counted, pulls, if_drew}
use Rattle.world.specs.Steps.{rule_in, places_in, accepted, held_count, next_sample, sample_stamps, later, settled, reading_in, oldest, facts_in, answered, changed, outcome, step}
use Rattle.world.specs.Tests.{watch_refuses, source_refuses, tests, first_refusal, call_refusal, arm_fits}
use Rattle.world.specs.World.{Sizes, Armed, World}
use Rattle.world.specs.declared.answer.Answer.{Answer}
use Rattle.world.specs.declared.answer.Answer.TheVariants as answer
use Rattle.world.specs.declared.answer.Shown.{Shown}
use Rattle.world.specs.declared.call.Call.{Call}
use Rattle.world.specs.declared.call.Call.TheVariants.{Arm, Draw, Look, Alarm, Take, Pull}
use Rattle.world.specs.declared.refused.By.TheVariants.{Watch, Source}
use Rattle.world.specs.declared.refused.Refused.{Refused}

-- every test holds
abbrev pub Hold : List (Bool × Refused) → Type 0
Hold = AllByRecursion (λ t. t.0 ≡ true)

-- one fails that has this refusal, and every test before it holds
abbrev pub Fails : List (Bool × Refused) → Refused → Type 0
Fails [] why = ⊥
Fails (t ∷ ts) why = ((t.0 ≡ false) × (t.1 ≡ why)) ⊎ ((t.0 ≡ true) × Fails ts why)

pub fails : (ts : List (Bool × Refused)) (why : Refused) → first_refusal ts ≡ Some why → Fails ts why
fails [] why e = absurd cc
fails (t ∷ ts) why e =
    cond_both t.0 (first_refusal ts) (Some t.1) (λ o. o ≡ Some why → Fails (t ∷ ts) why)
    (λ x y. inr (x, fails ts why y))
    (λ x y. inl (x, cc))
    e

pub hold : (ts : List (Bool × Refused)) → first_refusal ts ≡ None → Hold ts
hold [] e = tt
hold (t ∷ ts) e =
    cond_both t.0 (first_refusal ts) (Some t.1) (λ o. o ≡ None → Hold (t ∷ ts))
    (λ x y. (x, hold ts y))
    (λ x y. absurd cc)
    e

pub not_refused : (ts : List (Bool × Refused)) → Hold ts → first_refusal ts ≡ None
not_refused [] h = refl
not_refused (t ∷ ts) h = rw h.0 (not_refused ts h.1)

-- no test has this refusal, so none fails with it
pub none_such : (ts : List (Bool × Refused)) (why : Refused) → AllByRecursion (λ t. t.1 ≡ why → ⊥) ts → Fails ts why → ⊥
none_such [] why h f = f
none_such (t ∷ ts) why h (inl f) = h.0 f.1
none_such (t ∷ ts) why h (inr f) = none_such ts why h.1 f.1

-- refusals of the watch differ by their numbers, and a source's are not the watch's
pub unlike : (a b : Refusal) → eqb (number_of a) (number_of b) ≡ false → watch_refuses a ≡ watch_refuses b → ⊥
unlike a b d e = eqb-false _ _ d (ap (λ x. number_of x.refusal) e)

pub not_source : (coming : Coming) (why : Refusal) → source_refuses coming ≡ watch_refuses why → ⊥
not_source coming why e = let f = ap (λ x. x.by) e in cc

-- whether it is the watch that refuses, with this refusal
abbrev pub own : Refusal → Refused → Bool
own why r = elim r.by [ Watch ↦ eqb (number_of r.refusal) (number_of why) | Source ↦ false ]

own_is : (why : Refusal) (r : Refused) → r ≡ watch_refuses why → own why r ≡ true
own_is why r e = rw e (eq-eqb (number_of why) (number_of why) refl)

-- whether some of these tests has the refusal, and whether test k alone has it
abbrev pub some_has : Refusal → List (Bool × Refused) → Bool
some_has why [] = false
some_has why (t ∷ ts) = own why t.1 || some_has why ts

abbrev pub alone : Refusal → ℕ → List (Bool × Refused) → Bool
alone why k [] = false
alone why zero (t ∷ ts) = not (some_has why ts)
alone why (suc k) (t ∷ ts) = not (own why t.1) && alone why k ts

-- test k fails, and every test before it holds
abbrev pub FailsAt : ℕ → List (Bool × Refused) → Type 0
FailsAt k [] = ⊥
FailsAt zero (t ∷ ts) = t.0 ≡ false
FailsAt (suc k) (t ∷ ts) = (t.0 ≡ true) × FailsAt k ts

pub none_has : (why : Refusal) (ts : List (Bool × Refused)) → some_has why ts ≡ false → Fails ts (watch_refuses why) → ⊥
none_has why [] h f = f
none_has why (t ∷ ts) h (inl f) = true≢false (sym (own_is why t.1 f.1) ∙ (or_parts _ _ h).0)
none_has why (t ∷ ts) h (inr f) = none_has why ts (or_parts _ _ h).1 f.1

pub fails_at : (why : Refusal) (k : ℕ) (ts : List (Bool × Refused)) → alone why k ts ≡ true → Fails ts (watch_refuses why) → FailsAt k ts
fails_at why k [] h f = absurd f
fails_at why zero (t ∷ ts) h (inl f) = f.0
fails_at why zero (t ∷ ts) h (inr f) = absurd (none_has why ts (not-true _ h) f.1)
fails_at why (suc k) (t ∷ ts) h (inl f) = absurd (true≢false (sym (own_is why t.1 f.1) ∙ not-true _ (and_parts _ _ h).0))
fails_at why (suc k) (t ∷ ts) h (inr f) = (f.0, fails_at why k ts (and_parts _ _ h).1 f.1)

-- the first of a list that has one, and the rest
pub first_of : {X : Type 0} (l : List X) (d : X) → ltb 0 (length l) ≡ true → l ≡ get_or l 0 d ∷ elim l [ [] ↦ [] | x ∷ xs ↦ xs ]
first_of [] d e = absurd (true≢false (sym e))
first_of (x ∷ xs) d e = refl

module _ {V : Type 0} where
  pub is_armed : (w : World V) → is_some w.armed ≡ true → (b : Armed) × (w.armed ≡ Some b)
  is_armed w e = go w.armed refl e
    where
      go : (o : Option Armed) → w.armed ≡ o → is_some o ≡ true → (b : Armed) × (w.armed ≡ Some b)
      go None f g = absurd (true≢false (sym g))
      go (Some b) f g = (b, f)

  pub not_armed : (w : World V) → is_some w.armed ≡ false → w.armed ≡ None
  not_armed w e = go w.armed refl e
    where
      go : (o : Option Armed) → w.armed ≡ o → is_some o ≡ false → w.armed ≡ None
      go None f g = f
      go (Some b) f g = absurd (true≢false g)

  -- an answer that says of no draw, take or pull that it was accepted
  pub record Quiet (a : Answer V) : Type 0 where
    pub no_draw : (xs : List (Answer V)) → draws (a ∷ xs) ≡ draws xs
    pub no_take : (xs : List (Answer V)) → takes (a ∷ xs) ≡ takes xs
    pub no_count : (xs : List (Answer V)) → counted (a ∷ xs) ≡ counted xs
    pub no_peek : (x : SampleRow) → if_drew a x ≡ []
    pub no_pull : (xs : List (Answer V)) → pulls (a ∷ xs) ≡ pulls xs

  pub quiet_refused : (why : Refused) → Quiet (answer.Refused why)
  unfolding draws takes counted pulls
  quiet_refused why = record { no_draw = λ xs. refl; no_take = λ xs. refl; no_count = λ xs. refl; no_peek = λ x. refl; no_pull = λ xs. refl }

  pub quiet_showed : (e : Shown V) → Quiet (answer.Showed e)
  unfolding draws takes counted pulls
  quiet_showed e = record { no_draw = λ xs. refl; no_take = λ xs. refl; no_count = λ xs. refl; no_peek = λ x. refl; no_pull = λ xs. refl }

  pub quiet_alarmed : (o : Option (ℕ × ℕ)) → Quiet (answer.Alarmed o)
  unfolding draws takes counted pulls
  quiet_alarmed o = record { no_draw = λ xs. refl; no_take = λ xs. refl; no_count = λ xs. refl; no_peek = λ x. refl; no_pull = λ xs. refl }

module _ {V : Type 0} (ops : Ops V) (read : ℕ → ℕ → V) (s : Sizes) where
  -- a call is refused by a test that fails, or accepted where every test holds
  pub record Ways (c : Call) (w : World V) (P : World V × Answer V → Type 0) : Type 0 where
    pub refusing : (why : Refused) → Fails (tests c (facts_in ops read s c w)) why → P (w, answer.Refused why)
    pub accepting : Hold (tests c (facts_in ops read s c w)) → P (changed ops read s c w, answered ops read c w)

  pub by_ways : (c : Call) (w : World V) (P : World V × Answer V → Type 0) → Ways c w P → P (step ops read s c w)
  unfolding step
  by_ways c w P W = go (call_refusal c (facts_in ops read s c w)) refl
    where
      go : (o : Option Refused) → call_refusal c (facts_in ops read s c w) ≡ o → P (outcome ops read s c w o)
      go None e = W.accepting (hold _ e)
      go (Some why) e = W.refusing why (fails _ why e)

  -- an accepted call answers no refusal
  accepted_not : (c : Call) (w : World V) (why : Refused) → answered ops read c w ≡ answer.Refused why → ⊥
  accepted_not (Arm rule) w why e = cc
  accepted_not _ w why e = cc

  -- what a call that is refused comes to, and which test it is that fails
  pub refuses : (c : Call) (w : World V) (why : Refused) → (step ops read s c w).1 ≡ answer.Refused why → ((step ops read s c w).0 ≡ w) × Fails (tests c (facts_in ops read s c w)) why
  refuses c w why = by_ways c w (λ o. o.1 ≡ answer.Refused why → (o.0 ≡ w) × Fails (tests c (facts_in ops read s c w)) why) (record {
    refusing = λ x f e. let q : x ≡ why = cc in (refl, subst (Fails (tests c (facts_in ops read s c w))) q f);
    accepting = λ h e. absurd (accepted_not c w why e);
  })

  -- what a call whose tests all hold comes to
  pub accepts : (c : Call) (w : World V) → Hold (tests c (facts_in ops read s c w)) → step ops read s c w ≡ (changed ops read s c w, answered ops read c w)
  unfolding step
  accepts c w h = rw (not_refused (tests c (facts_in ops read s c w)) h) refl

  -- and of a call that is answered without a refusal they all hold
  pub unrefused : (c : Call) (w : World V) → ((why : Refused) → (step ops read s c w).1 ≡ answer.Refused why → ⊥) → Hold (tests c (facts_in ops read s c w)) × (step ops read s c w ≡ (changed ops read s c w, answered ops read c w))
  unrefused c w = by_ways c w (λ o. ((why : Refused) → o.1 ≡ answer.Refused why → ⊥) → Hold (tests c (facts_in ops read s c w)) × (o ≡ (changed ops read s c w, answered ops read c w))) (record {
    refusing = λ why f n. absurd (n why refl);
    accepting = λ h n. (h, refl);
  })

  pub data Move (w : World V) : World V → Answer V → Type 0 where
    stays : {a : Answer V} → Quiet a → Move w w a
    arms : (rule : Rule) → w.armed ≡ None → arm_fits rule s (accepted w) ≡ true → Move w (changed ops read s (Arm rule) w) (answered ops read (Arm rule) w)
    draws_one : (b : Armed) → w.armed ≡ Some b → (held_count w ≡ places_in w → ⊥) → w.coming.samples ≡ next_sample w ∷ (rest w.coming).samples → later (sample_stamps w) (next_sample w).stamp ≡ true → Move w (changed ops read s Draw w) (answered ops read Draw w)
    takes_one : (b : Armed) → w.armed ≡ Some b → w.taken < accepted w → settled ops read (rule_in w) w.capture w.taken ≡ true → length w.tray < s.tray_places → Move w (changed ops read s Take w) (answered ops read Take w)
    pulls_one : w.tray ≡ oldest ops read w ∷ (changed ops read s Pull w).tray → Move w (changed ops read s Pull w) (answered ops read Pull w)

  abbrev pub Moved : World V → World V × Answer V → Type 0
  Moved w o = Move w o.0 o.1

  accepted_moves : (c : Call) (w : World V) → Hold (tests c (facts_in ops read s c w)) → Moved w (changed ops read s c w, answered ops read c w)
  accepted_moves (Arm rule) w t = arms rule (not_armed w (not-true _ t.0)) t.1.0
  accepted_moves Draw w t =
      let b = is_armed w t.0 in
      draws_one b.0 b.1 (eqb-false _ _ (not-true _ t.1.1.0)) (first_of w.coming.samples blank t.1.1.1.0) t.1.1.1.1.0
  accepted_moves (Look p) w t = stays (quiet_showed _)
  accepted_moves Alarm w t = stays (quiet_alarmed _)
  accepted_moves Take w t =
      let b = is_armed w t.0 in
      takes_one b.0 b.1 (ltb-true _ _ t.1.1.0) t.1.1.1.0 (ltb-true _ _ t.1.1.1.1.0)
  accepted_moves Pull w t = pulls_one (first_of w.tray (reading_in ops read w) t.0)

  pub moves : (c : Call) (w : World V) → Moved w (step ops read s c w)
  moves c w = by_ways c w (Moved w) (record {
    refusing = λ why f. stays (quiet_refused why);
    accepting = λ h. accepted_moves c w h;
  })
