-- Refusals change nothing, memory always fits, readings rise, and the held positions are the last ones, at most C. Assumes nothing.
use Rattle.std.proofs.Common.{◌≡◌, ℕ, ◌+◌, ◌-◌, ◌<◌, true, eqb, [], ◌∷◌, ◌++◌, map, length, get_or, is_some, sym, refl, ap, ◌∙◌, inl, inr, zero-add, arith}
use lib.ListN.{length-map, get_or-map}
use Rattle.std.proofs.lemmas.List.FromFn.{length-range_with_len, get_or-range_with_len}
use Rattle.std.proofs.ByRecursion.{All-get_or}
use Rattle.std.proofs.lemmas.Bool.{cases_eq, or_left, or_right, eq-eqb, lt-ltb, ltb-true, true≢false}
use Rattle.refusal.specs.declared.Refusal.TheVariants as refusal
use Rattle.rule.specs.declared.rule.Rule.{Rule}
use Rattle.sample.specs.Coming.{Coming}
use Rattle.scale.specs.Laws.{Ops, Laws}
use Rattle.world.proofs.Holding.{held_on}
use Rattle.world.proofs.Keep.{Kept, rising_more}
use Rattle.world.proofs.Moves.{Fails, none_has, fails_at, refuses, unrefused}
use Rattle.world.proofs.Settling.{Done, done, drawn_total, totals}
use Rattle.world.proofs.Start.{holds, after_join}
use Rattle.world.specs.Law.{world, Reads, settled_count, SettledBy, Besides}
use Rattle.world.specs.Steps.{rule_in, accepted, many, fits_armed, stamp_at, later, next_sample, newly, reading_stamps, reading_in, facts_in, answered, after}
use Rattle.world.specs.Tests.{watch_refuses, tests}
use Rattle.world.specs.World.{Sizes, World, unused}
use Rattle.world.specs.declared.answer.Answer.TheVariants as answer
use Rattle.world.specs.declared.answer.Drawn.{Drawn}
use Rattle.world.specs.declared.call.Call.{Call}
use Rattle.world.specs.declared.call.Call.TheVariants.{Arm, Draw, Take, Pull}
use Rattle.world.specs.declared.reading.Reading.{Reading}

-- an armed watch has memory that fits
abbrev pub Fitting : {V : Type 0} → Sizes → World V → Type 0
Fitting s w = is_some w.armed ≡ true → fits_armed w.armed s ≡ true

module _ {V : Type 0} (ops : Ops V) (read : ℕ → ℕ → V) (s : Sizes) where
  -- and memory is the refusal of the second test alone
  only_arm : (c : Call) (w : World V) → Fitting s w → Fails (tests c (facts_in ops read s c w)) (watch_refuses refusal.Memory) → (rule : Rule) × (c ≡ Arm rule)
  only_arm (Arm rule) w fit f = (rule, refl)
  only_arm Pull w fit f = absurd (none_has refusal.Memory (tests Pull (facts_in ops read s Pull w)) refl f)
  only_arm c w fit f = let m = fails_at refusal.Memory 1 (tests c (facts_in ops read s c w)) refl f in absurd (true≢false (sym (fit m.0) ∙ m.1))

module _ {V : Type 0} (ops : Ops V) (read : ℕ → ℕ → V) (s : Sizes) (source : Coming) where
  pub fitting : (w : World V) → Kept ops read s source w → Fitting s w
  fitting w K e = elim K.standing [
    | inl x ↦ absurd (true≢false (sym e ∙ ap is_some x.unarmed))
    | inr x ↦ x.fits
  ]

  -- a reading is later than the last that the tray took
  pub take_later : (w : World V) → Kept ops read s source w → w.taken < accepted w → later (reading_stamps w) (reading_in ops read w).stamp ≡ true
  unfolding later
  take_later w K l =
      let rs = w.pulled ++ w.tray in
      let ts = map (λ (r : Reading V). r.stamp) rs in
      let d : Reading V = record { position = 0; stamp = 0; value = (reading_in ops read w).value } in
      let n = length-map rs (λ r. r.stamp) in
      let m = length-map rs (λ r. r.position) in
      let c : length (map (λ (r : Reading V). r.position) rs) ≡ w.taken = ap length K.order ∙ length-range_with_len 0 w.taken in
      elim (cases_eq (length ts) 0) [
        | inl e ↦ or_left _ _ (eq-eqb (length ts) 0 e)
        | inr e ↦ or_right (eqb (length ts) 0) _ (
            let k = length ts - 1 in
            let r = All-get_or (Reads ops read (rule_in w) w.capture) rs k d (omega arith) K.right in
            let at : (get_or rs k d).position ≡ 0 + k = sym (get_or-map (λ (x : Reading V). x.position) rs k d) ∙ ap (λ x. get_or x k 0) K.order ∙ get_or-range_with_len 0 w.taken k 0 (omega arith) in
            let last : get_or ts k 0 ≡ (get_or rs k d).stamp = get_or-map (λ x. x.stamp) rs k d in
            let now : (get_or rs k d).stamp ≡ stamp_at w.capture (0 + k) = r.stamp_is ∙ ap (stamp_at w.capture) at in
            let u = K.up (0 + k) w.taken (omega arith) l in
            lt-ltb _ _ (omega arith))
      ]

  -- so take does not fail as backward
  not_backward : (w : World V) → Kept ops read s source w → Fails (tests Take (facts_in ops read s Take w)) (watch_refuses refusal.Backward) → ⊥
  not_backward w K f =
      let b = fails_at refusal.Backward 5 (tests Take (facts_in ops read s Take w)) refl f in
      true≢false (sym (take_later w K (ltb-true _ _ b.1.1.0)) ∙ b.1.1.1.1.1)

module _ {V : Type 0} {ops : Ops V} (laws : Laws ops) (read : ℕ → ℕ → V) (s : Sizes) (source : Coming) where
  settled_by : SettledBy ops read s source
  unfolding after
  settled_by cs d e =
      let w = world ops read s source cs in
      let K = holds laws read s source cs in
      let a = unrefused ops read s Draw w (λ why f. cc) in
      let same : answered ops read Draw w ≡ answer.Drew d = sym (ap (λ x. x.1) a.1) ∙ e in
      let says : ◌≡◌ {A = Drawn} (record { position = accepted w; settled = newly ops read w (next_sample w) }) d = cc in
      let done-so : Done ops read w = done laws read s source cs _ (holds laws read s source []) (λ j l. absurd (omega arith)) in
      ap (settled_count ops read) (after_join ops read s cs (Draw ∷ []) _ ∙ ap (λ x. x.0) a.1)
      ∙ drawn_total laws read w (next_sample w) (rising_more w.capture (next_sample w) K.up a.0.1.1.1.1.0) K.few done-so
      ∙ ap (λ x. settled_count ops read w + x.settled) says

  pub besides : Besides ops read s source
  unfolding after many
  besides =
      let W = world ops read s source in
      let K = holds laws read s source in
      record {
        refusals = λ cs c why e. after_join ops read s cs (c ∷ []) _ ∙ (refuses ops read s c (W cs) why e).0;
        settled_by = settled_by;
        settlings = λ cs. totals laws read s source cs (unused source) (K []) (λ j l. absurd (omega arith)) ∙ zero-add _;
        last_held = λ cs i j h l r. held_on (rule_in (W cs)) (W cs).capture (W cs).taken i j (K cs).up h l r;
        room = λ cs. (K cs).room;
        tray_room = λ cs. (K cs).tray_room;
        fits_on = λ cs c e. only_arm ops read s c (W cs) (fitting ops read s source (W cs) (K cs)) (refuses ops read s c (W cs) _ e).1;
        later_on = λ cs e. not_backward ops read s source (W cs) (K cs) (refuses ops read s Take (W cs) _ e).1;
      }
