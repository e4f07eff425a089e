-- Look encloses the true value, closer and closer, and alarm is right. Assumes nothing.
use Rattle.std.proofs.Common.{◌≡◌, ℕ, ◌-◌, ◌<◌, ◌≤◌, true, false, ◌++◌, is_some, Some, None, Option, sym, refl, ap, ◌∙◌, subst, ap₂, inl, inr, arith}
use Rattle.std.proofs.lemmas.Bool.{ltb-true, lt-ltb, not-true, not-false, cases_Bool, true≢false}
use Rattle.logic.proofs.Lists as meaning
use Rattle.logic.specs.Trace.{trace, Rising}
use Rattle.sample.specs.Coming.{Coming}
use Rattle.scale.specs.Laws.{Ops, Laws, Below}
use Rattle.world.proofs.Failing.{lowest_is, lowest_none}
use Rattle.world.proofs.Holding.{held_is}
use Rattle.world.proofs.Moves.{by_ways, accepts, is_armed}
use Rattle.world.proofs.Start.{holds, after_join, grown, Grown}
use Rattle.world.specs.Law.{GoesOn, world, high_passes, Encloses, Narrows, Alarms, Silent, Saying}
use Rattle.world.specs.Steps.{rule_in, formula_armed, fits_armed, accepted, held, stamp_at, alarming, with_stamp, shown, answered, step}
use Rattle.world.specs.World.{Sizes, Armed, World}
use Rattle.world.specs.declared.answer.Answer.{Answer}
use Rattle.world.specs.declared.answer.Answer.TheVariants.{Showed, Alarmed}
use Rattle.world.specs.declared.answer.Shown.{Shown}
use Rattle.world.specs.declared.call.Call.TheVariants.{Look, Alarm}

module _ {V : Type 0} (ops : Ops V) (read : ℕ → ℕ → V) (s : Sizes) where
  -- what an accepted look shows
  pub record Looked (w : World V) (p : ℕ) (low high : V) : Type 0 where
    pub armed : Armed
    pub armed_is : w.armed ≡ Some armed
    pub old : p < accepted w
    pub low_is : (shown ops read (rule_in w) w.capture p).low ≡ low
    pub high_is : (shown ops read (rule_in w) w.capture p).high ≡ high

  pub looked : (w : World V) (p : ℕ) (low high : V) → (step ops read s (Look p) w).1 ≡ Showed (record { low = low; high = high }) → Looked w p low high
  looked w p low high = by_ways ops read s (Look p) w (λ x. x.1 ≡ Showed (record { low = low; high = high }) → Looked w p low high) (record {
    refusing = λ why r f. absurd cc;
    accepting = λ t f.
        let b = is_armed w t.0 in
        let e : ◌≡◌ {A = Shown V} (record { low = (shown ops read (rule_in w) w.capture p).low; high = (shown ops read (rule_in w) w.capture p).high }) (record { low = low; high = high }) = cc in
        record { armed = b.0; armed_is = b.1; old = ltb-true p (accepted w) t.1.1.0; low_is = ap (λ x. x.low) e; high_is = ap (λ x. x.high) e };
  })

  -- look is accepted at held positions
  pub looks : (w : World V) (p : ℕ) (b : Armed) → w.armed ≡ Some b → fits_armed w.armed s ≡ true → held w p ≡ true → (step ops read s (Look p) w).1 ≡ answered ops read (Look p) w
  looks w p b e f h = ap (λ x. x.1) (accepts ops read s (Look p) w (ap is_some e, (f, (lt-ltb p (accepted w) (held_is (rule_in w) w.capture w.taken p h).0, (h, tt)))))

  named : (w : World V) (p t : ℕ) (o : Option ℕ) → ◌≡◌ {A = Answer V} (Alarmed (with_stamp ops read w.capture o)) (Alarmed (Some (p, t))) → (o ≡ Some p) × (t ≡ stamp_at w.capture p)
  named w p t None e = absurd cc
  named w p t (Some q) e =
      let x : ◌≡◌ {A = ℕ × ℕ} (q, stamp_at w.capture q) (p, t) = cc in
      let y : q ≡ p = ap (λ z. z.0) x in
      (ap Some y, sym (ap (λ z. z.1) x) ∙ ap (stamp_at w.capture) y)

  -- what an alarm names
  pub record Named (w : World V) (p t : ℕ) : Type 0 where
    pub untaken : w.taken ≤ p
    pub old : p < accepted w
    pub stamp_is : t ≡ stamp_at w.capture p
    pub fails : high_passes ops read w p ≡ false
    pub lowest : (q : ℕ) → w.taken ≤ q → q < p → high_passes ops read w q ≡ true

  pub alarm_says : (w : World V) (p t : ℕ) → w.taken ≤ accepted w → (step ops read s Alarm w).1 ≡ Alarmed (Some (p, t)) → Named w p t
  alarm_says w p t k = by_ways ops read s Alarm w (λ x. x.1 ≡ Alarmed (Some (p, t)) → Named w p t) (record {
    refusing = λ why r f. absurd cc;
    accepting = λ h f.
        let n = named w p t (alarming ops read w) f in
        let r = lowest_is ops read (trace w.capture) (rule_in w) w.taken (accepted w - w.taken) p n.0 in
        record { untaken = r.from; old = let b = r.below in omega arith; stamp_is = n.1; fails = not-true _ r.fails; lowest = λ q l m. not-false _ (r.earlier q l m) };
  })

  none_named : (w : World V) (o : Option ℕ) → ◌≡◌ {A = Answer V} (Alarmed (with_stamp ops read w.capture o)) (Alarmed None) → o ≡ None
  none_named w None e = refl
  none_named w (Some q) e = absurd cc

  -- where alarm names none, no untaken position fails
  pub no_alarm : (w : World V) → (step ops read s Alarm w).1 ≡ Alarmed None → (p : ℕ) → w.taken ≤ p → p < accepted w → high_passes ops read w p ≡ true
  no_alarm w e p a b = by_ways ops read s Alarm w (λ x. x.1 ≡ Alarmed None → high_passes ops read w p ≡ true) (record {
    refusing = λ why r f. absurd cc;
    accepting = λ h f. not-false _ (lowest_none ops read (trace w.capture) (rule_in w) w.taken (accepted w - w.taken) (none_named w (alarming ops read w) f) p a (omega arith));
  }) e

module _ {V : Type 0} {ops : Ops V} (laws : Laws ops) (read : ℕ → ℕ → V) (s : Sizes) (source : Coming) where
  encloses : Encloses ops read s source
  encloses cs p h =
      let w = world ops read s source cs in
      let l = (held_is (rule_in w) w.capture w.taken p h).0 in
      elim (holds laws read s source cs).standing [
        | inl x ↦ absurd (omega arith)
        | inr x ↦ (
          _,
          _,
          looks ops read s w p x.armed x.armed_is x.fits h,
          λ more R. meaning.encloses laws read (rule_in w) w.capture more p R.lawful l R.waited,
        )
      ]

  narrows : Narrows ops read s source
  narrows cs ds p low high low' high' e f =
      let w = world ops read s source cs in
      let w' = world ops read s source (cs ++ ds) in
      let a = looked ops read s w p low high e in
      let b = looked ops read s w' p low' high' f in
      let g = subst (Grown a.armed w) (sym (after_join ops read s cs ds _)) (grown ops read s a.armed ds w a.armed_is) in
      let same : rule_in w' ≡ rule_in w = ap formula_armed (g.0 ∙ sym a.armed_is) in
      let up : Rising (trace (w.capture ++ g.1.0)) = rw g.1.1 at (holds laws read s source (cs ++ ds)).up in
      let n = meaning.narrows laws read (rule_in w) w.capture g.1.0 p up a.old in
      let now : shown ops read (rule_in w) (w.capture ++ g.1.0) p ≡ shown ops read (rule_in w') w'.capture p = ap₂ (λ A σ. shown ops read A σ p) (sym same) (sym g.1.1) in (
        subst (λ x. x) (ap₂ (Below ops) a.low_is (ap (λ x. x.low) now ∙ b.low_is)) n.0,
        subst (λ x. x) (ap₂ (Below ops) (ap (λ x. x.high) now ∙ b.high_is) a.high_is) n.1,
      )

  alarms : Alarms ops read s source
  alarms cs p t e =
      let w = world ops read s source cs in
      let a = alarm_says ops read s w p t (holds laws read s source cs).few e in
      record {
        from_taken = a.untaken;
        seen = a.old;
        stamp_is = a.stamp_is;
        fails = λ more R.
            let b = meaning.encloses laws read (rule_in w) w.capture more p R.lawful a.old R.waited in
            elim (cases_Bool (ops.passes _)) [ inl x ↦ absurd (true≢false (sym (laws.monotone _ _ b.1 x) ∙ a.fails)) | inr x ↦ x ];
        high_fails = a.fails;
        lowest = a.lowest;
      }

  silent : Silent ops read s source
  silent cs = no_alarm ops read s (world ops read s source cs)

  goes_on : GoesOn ops read s source
  goes_on cs p l =
      let w = world ops read s source cs in
      let c = meaning.can_continue (rule_in w) w.capture p (holds laws read s source cs).up l in
      (c.0, c.1, record { lawful = c.2; waited = c.3 })

  pub saying : Saying ops read s source
  saying = record { goes_on = goes_on; encloses = encloses; narrows = narrows; alarms = alarms; silent = silent }
