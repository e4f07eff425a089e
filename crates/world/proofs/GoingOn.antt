-- Nothing waits longer than the wait, and a full watch can be freed. Assumes nothing.
use Rattle.std.proofs.Common.{◌≡◌, ℕ, suc, ◌+◌, ◌<◌, ◌≤◌, List, [], ◌∷◌, ◌++◌, length, is_some, Some, sym, refl, ap, ◌∙◌, subst, inl, inr, arith}
use Rattle.std.proofs.lemmas.Bool.{eqb-true, lt-ltb, not-false, cases_lt, true≢false}
use Rattle.logic.specs.Formula.{span, wait}
use Rattle.logic.specs.Trace.{trace, newest}
use Rattle.refusal.specs.declared.Refusal.TheVariants as refusal
use Rattle.sample.specs.Coming.{Coming}
use Rattle.scale.specs.Laws.{Ops, Laws}
use Rattle.world.proofs.Besides.{fitting, take_later}
use Rattle.world.proofs.Holding.{spread_out, one_fewer}
use Rattle.world.proofs.Keep.{Kept}
use Rattle.world.proofs.Moves.{fails_at, refuses, accepts, is_armed, Move, stays, arms, draws_one, takes_one, pulls_one, moves}
use Rattle.world.proofs.Settling.{over}
use Rattle.world.proofs.Start.{holds, after_join}
use Rattle.world.specs.Law.{world, takes, Prompt, FullSettled, FullTakes, FullFrees, GoingOn}
use Rattle.world.specs.Steps.{rule_in, formula_armed, places_in, accepted, held_of, held_count, many, stamp_at, facts_in, step, after, answers}
use Rattle.world.specs.Tests.{watch_refuses, tests}
use Rattle.world.specs.World.{Sizes, Armed, World}
use Rattle.world.specs.declared.answer.Answer.{Answer}
use Rattle.world.specs.declared.answer.Answer.TheVariants as answer
use Rattle.world.specs.declared.call.Call.{Call}
use Rattle.world.specs.declared.call.Call.TheVariants.{Draw, Take}

module _ {V : Type 0} where
  -- armed, and C positions are held
  abbrev pub Full : World V → Type 0
  Full w = (b : Armed) × (w.armed ≡ Some b) × (held_count w ≡ places_in w)

  -- the oldest untaken position is the span older than the newest
  abbrev pub Crowded : World V → Type 0
  Crowded w = (w.taken < accepted w) × (stamp_at w.capture w.taken + span (rule_in w) ≤ newest (trace w.capture))

  -- armed with the same, with the same capture, and so many taken
  pub record Same (w w' : World V) (taken : ℕ) : Type 0 where
    pub armed_is : w'.armed ≡ w.armed
    pub capture_is : w'.capture ≡ w.capture
    pub taken_is : w'.taken ≡ taken

module _ {V : Type 0} (ops : Ops V) (read : ℕ → ℕ → V) (s : Sizes) where
  -- a watch that refuses a draw as full is full
  pub full : (w : World V) → (step ops read s Draw w).1 ≡ answer.Refused (watch_refuses refusal.Full) → Full w
  full w e =
      let f = fails_at refusal.Full 2 (tests Draw (facts_in ops read s Draw w)) refl (refuses ops read s Draw w _ e).1 in
      let b = is_armed w f.0 in
      (b.0, b.1, eqb-true (held_count w) (places_in w) (not-false _ f.1.1))

  -- without a take, a full watch stays as it is
  frozen_move : (w : World V) {w' : World V} {a : Answer V} → Full w → Move ops read s w w' a → (xs : List (Answer V)) → takes (a ∷ xs) ≡ 0 → Full w' × Same w w' w.taken × (takes xs ≡ 0)
  unfolding takes
  frozen_move w F (stays q) xs e = (F, record { armed_is = refl; capture_is = refl; taken_is = refl }, sym (q.no_take xs) ∙ e)
  frozen_move w F (arms rule f g) xs e = let h = F.1 in absurd cc
  frozen_move w F (draws_one b f g r t) xs e = absurd (g F.2)
  frozen_move w F (takes_one b f l t g) xs e = absurd (omega arith)
  frozen_move w F (pulls_one f) xs e = (F, record { armed_is = refl; capture_is = refl; taken_is = refl }, e)

  pub frozen : (ds : List Call) (w : World V) → Full w → takes (answers ops read s ds w) ≡ 0 → Same w (after ops read s ds w) w.taken
  unfolding after answers
  frozen [] w F e = record { armed_is = refl; capture_is = refl; taken_is = refl }
  frozen (d ∷ ds) w F e =
      let m = frozen_move w F (moves ops read s d w) (answers ops read s ds (step ops read s d w).0) e in
      let r = frozen ds (step ops read s d w).0 m.0 m.2 in
      record { armed_is = r.armed_is ∙ m.1.armed_is; capture_is = r.capture_is ∙ m.1.capture_is; taken_is = r.taken_is ∙ m.1.taken_is }

  took_move : (w : World V) (p : ℕ) {w' : World V} {a : Answer V} → Move ops read s w w' a → a ≡ answer.Took p → Same w w' (suc w.taken)
  unfolding takes
  took_move w p (stays q) e = absurd (cc (q.no_take []))
  took_move w p (takes_one b f l t g) e = record { armed_is = refl; capture_is = refl; taken_is = refl }
  took_move w p _ e = absurd cc

  pub took_one : (w : World V) (p : ℕ) → (step ops read s Take w).1 ≡ answer.Took p → Same w (after ops read s (Take ∷ []) w) (suc w.taken)
  unfolding after
  took_one w p = took_move w p (moves ops read s Take w)

module _ {V : Type 0} (ops : Ops V) (read : ℕ → ℕ → V) (s : Sizes) (source : Coming) where
  -- a full watch is crowded
  pub crowded : (w : World V) → Kept ops read s source w → Full w → Crowded w
  crowded w K F =
      let room : span (rule_in w) < places_in w = elim K.standing [
        | inl x ↦ (let f = F.1 in absurd cc)
        | inr x ↦ x.spacious
      ] in
      let full = F.2 in
      spread_out (rule_in w) w.capture w.taken K.up (omega arith)

module _ {V : Type 0} {ops : Ops V} (laws : Laws ops) (read : ℕ → ℕ → V) (s : Sizes) (source : Coming) where
  prompt : Prompt ops read s source
  prompt cs p l e =
      let w = world ops read s source cs in
      elim (cases_lt (newest (trace w.capture)) (stamp_at w.capture p + wait (rule_in w))) [
        | inl x ↦ x
        | inr x ↦ absurd (true≢false (sym (over laws read (rule_in w) w.capture p (holds laws read s source cs).up l x) ∙ e))
      ]

  full_settled : FullSettled ops read s source
  full_settled cs e =
      let w = world ops read s source cs in
      let K = holds laws read s source cs in
      let c = crowded ops read s source w K (full ops read s w e) in
      (c.0, over laws read (rule_in w) w.capture w.taken K.up c.0 (omega arith))

  full_takes : FullTakes ops read s source
  full_takes cs e free =
      let w = world ops read s source cs in
      let K = holds laws read s source cs in
      let armed = ap is_some (full ops read s w e).1 in
      let o = full_settled cs e in
      ap (λ x. x.1) (accepts ops read s Take w (armed, (fitting ops read s source w K armed, (lt-ltb _ _ o.0, (o.1, (lt-ltb _ _ free, (take_later ops read s source w K o.0, tt)))))))

  full_frees : FullFrees ops read s source
  full_frees cs ds p e n t =
      let w = world ops read s source cs in
      let F = full ops read s w e in
      let c = crowded ops read s source w (holds laws read s source cs) F in
      let f = subst (λ x. Same w x w.taken) (sym (after_join ops read s cs ds _)) (frozen ops read s ds w F n) in
      let w₁ = world ops read s source (cs ++ ds) in
      let k = subst (λ x. Same w₁ x (suc w₁.taken)) (sym (after_join ops read s (cs ++ ds) (Take ∷ []) _)) (took_one ops read s w₁ p t) in
      let armed_is = k.armed_is ∙ f.armed_is in
      let capture_is = k.capture_is ∙ f.capture_is in
      let taken_is = k.taken_is ∙ ap suc f.taken_is in (
        λ i. many (held_of (formula_armed (f.armed_is i)) (f.capture_is i) (f.taken_is i)) (length (f.capture_is i)),
        (λ i. suc (many (held_of (formula_armed (armed_is i)) (capture_is i) (taken_is i)) (length (capture_is i)))) ∙ one_fewer (rule_in w) w.capture w.taken c.0 c.1,
      )

  pub going_on : GoingOn ops read s source
  going_on = record { prompt = prompt; full_settled = full_settled; full_takes = full_takes; full_frees = full_frees }
