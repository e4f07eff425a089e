-- What the laws of a scale give: its order, and how the operations keep it. Assumes nothing.
use Rattle.std.proofs.Common.{◌≡◌, sym, ap, ◌∙◌}
use Rattle.scale.specs.Laws.{Ops, Laws, Below}

module _ {S : Type 0} {ops : Ops S} (laws : Laws ops) where
  pub or-worst : (a : S) → ops.or a ops.worst ≡ a
  or-worst a = laws.or_comm _ _ ∙ laws.worst-or a

  pub and-best : (a : S) → ops.and a ops.best ≡ a
  and-best a = laws.and_comm _ _ ∙ laws.best-and a

  -- at most is a partial order, with the worst below and the best above every value
  pub below_refl : (a : S) → Below ops a a
  below_refl a = ap (ops.and a) (sym (laws.or_absorbs a a)) ∙ laws.and_absorbs a (ops.and a a)

  pub below_trans : {a b c : S} → Below ops a b → Below ops b c → Below ops a c
  below_trans {a} {b} {c} p q =
      ap (λ x. ops.and x c) (sym p) ∙ laws.and_assoc a b c ∙ ap (ops.and a) q ∙ p

  pub antisym : {a b : S} → Below ops a b → Below ops b a → a ≡ b
  antisym {a} {b} p q = sym p ∙ laws.and_comm a b ∙ q

  pub below_of : {a b : S} → a ≡ b → Below ops a b
  below_of {a} {b} e = ap (ops.and a) (sym e) ∙ below_refl a

  pub worst_below : (a : S) → Below ops ops.worst a
  worst_below a = ap (ops.and ops.worst) (sym (laws.worst-or a)) ∙ laws.and_absorbs ops.worst a

  pub below_best : (a : S) → Below ops a ops.best
  below_best a = laws.and_comm a ops.best ∙ laws.best-and a

  -- and is the greatest value at most both, or the least at least both
  pub and_left : (a b : S) → Below ops (ops.and a b) a
  and_left a b = laws.and_comm _ a ∙ sym (laws.and_assoc a a b) ∙ ap (λ x. ops.and x b) (below_refl a)

  pub and_right : (a b : S) → Below ops (ops.and a b) b
  and_right a b = laws.and_assoc a b b ∙ ap (ops.and a) (below_refl b)

  pub and_both : {a b c : S} → Below ops c a → Below ops c b → Below ops c (ops.and a b)
  and_both {a} {b} {c} p q = sym (laws.and_assoc c a b) ∙ ap (λ x. ops.and x b) p ∙ q

  pub or_left : (a b : S) → Below ops a (ops.or a b)
  or_left a b = laws.and_absorbs a b

  pub or_right : (a b : S) → Below ops b (ops.or a b)
  or_right a b = ap (ops.and b) (laws.or_comm a b) ∙ laws.and_absorbs b a

  pub or_both : {a b c : S} → Below ops a c → Below ops b c → Below ops (ops.or a b) c
  or_both {a} {b} {c} p q =
      laws.and_comm _ c ∙ laws.distributes c a b ∙ ap (λ x. ops.or x (ops.and c b)) (laws.and_comm c a ∙ p) ∙ ap (ops.or a) (laws.and_comm c b ∙ q)

  pub or_mono : {a b c d : S} → Below ops a b → Below ops c d → Below ops (ops.or a c) (ops.or b d)
  or_mono {a} {b} {c} {d} p q = or_both (below_trans p (or_left b d)) (below_trans q (or_right b d))

  pub and_mono : {a b c d : S} → Below ops a b → Below ops c d → Below ops (ops.and a c) (ops.and b d)
  and_mono {a} {b} {c} {d} p q = and_both (below_trans (and_left a c) p) (below_trans (and_right a c) q)

  pub or_of_below : {a b : S} → Below ops a b → ops.or a b ≡ b
  or_of_below {a} {b} p = laws.or_comm a b ∙ ap (ops.or b) (sym p ∙ laws.and_comm a b) ∙ laws.or_absorbs b a

  -- turning over reverses the order, and swaps the ends, or and and
  pub turn_mono : {a b : S} → Below ops a b → Below ops (ops.turned b) (ops.turned a)
  turn_mono {a} {b} p = laws.and_comm _ _ ∙ sym (laws.turned_or a b) ∙ ap ops.turned (or_of_below p)

  pub turn_worst : ops.turned ops.worst ≡ ops.best
  turn_worst =
      antisym (below_best _) (below_trans (below_of (sym (laws.turned_twice ops.best))) (turn_mono (worst_below _)))

  pub turn_best : ops.turned ops.best ≡ ops.worst
  turn_best = ap ops.turned (sym turn_worst) ∙ laws.turned_twice ops.worst

  pub turn_and : (a b : S) → ops.turned (ops.and a b) ≡ ops.or (ops.turned a) (ops.turned b)
  turn_and a b =
      ap ops.turned (ap (λ x. ops.and x b) (sym (laws.turned_twice a)) ∙ ap (ops.and (ops.turned (ops.turned a))) (sym (laws.turned_twice b)) ∙ sym (laws.turned_or _ _)) ∙ laws.turned_twice _
