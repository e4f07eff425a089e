-- What holds after any calls on unused objects. Assumes nothing.
use Rattle.std.proofs.Common.{◌≡◌, ℕ, List, [], ◌∷◌, ◌++◌, Some, sym, refl, ap, ◌∙◌, inl, append_assoc, append-nil, arith}
use Rattle.sample.specs.Coming.{Coming}
use Rattle.sample.specs.declared.row.SampleRow.{SampleRow}
use Rattle.scale.specs.Laws.{Ops, Laws}
use Rattle.world.proofs.Holding.{held_none}
use Rattle.world.proofs.Keep.{Kept, kept}
use Rattle.world.proofs.Moves.{Move, arms, draws_one, moves}
use Rattle.world.specs.Law.{world}
use Rattle.world.specs.Steps.{next_sample, step, after, answers}
use Rattle.world.specs.World.{Sizes, Armed, World, unused}
use Rattle.world.specs.declared.answer.Answer.{Answer}
use Rattle.world.specs.declared.call.Call.{Call}

module _ {V : Type 0} where
  -- an armed watch stays armed as it is, and its capture only grows
  abbrev pub Grown : Armed → World V → World V → Type 0
  Grown b w w' = (w'.armed ≡ Some b) × ((more : List SampleRow) × (w'.capture ≡ w.capture ++ more))

module _ {V : Type 0} (ops : Ops V) (read : ℕ → ℕ → V) (s : Sizes) where
  pub after_join : (cs ds : List Call) (w : World V) → after ops read s (cs ++ ds) w ≡ after ops read s ds (after ops read s cs w)
  unfolding after
  after_join [] ds w = refl
  after_join (c ∷ cs) ds w = after_join cs ds (step ops read s c w).0

  pub answers_join : (cs ds : List Call) (w : World V) → answers ops read s (cs ++ ds) w ≡ answers ops read s cs w ++ answers ops read s ds (after ops read s cs w)
  unfolding after answers
  answers_join [] ds w = refl
  answers_join (c ∷ cs) ds w = ap (λ xs. (step ops read s c w).1 ∷ xs) (answers_join cs ds (step ops read s c w).0)

  grown_move : (b : Armed) (w : World V) {w' : World V} {a : Answer V} → w.armed ≡ Some b → Move ops read s w w' a → Grown b w w'
  grown_move b w e (arms rule f g) = absurd cc
  grown_move b w e (draws_one b' f g r t) = (e, (next_sample w ∷ [], refl))
  grown_move b w e _ = (e, ([], sym (append-nil w.capture)))

  pub grown : (b : Armed) (ds : List Call) (w : World V) → w.armed ≡ Some b → Grown b w (after ops read s ds w)
  unfolding after
  grown b [] w e = (e, ([], sym (append-nil w.capture)))
  grown b (d ∷ ds) w e =
      let g = grown_move b w e (moves ops read s d w) in
      let h = grown b ds (step ops read s d w).0 g.0 in
      (h.0, (g.1.0 ++ h.1.0, h.1.1 ∙ ap (λ x. x ++ h.1.0) g.1.1 ∙ append_assoc w.capture g.1.0 h.1.0))

module _ {V : Type 0} {ops : Ops V} (laws : Laws ops) (read : ℕ → ℕ → V) (s : Sizes) (source : Coming) where
  pub holds : (cs : List Call) → Kept ops read s source (world ops read s source cs)
  holds cs = kept laws read s source cs (unused source) (record {
    standing = inl (record { unarmed = refl; empty = refl });
    whole = refl;
    ends_as = refl;
    up = λ a b l r. absurd (omega arith);
    few = omega arith;
    order = refl;
    room = held_none _ [] 0 0 refl;
    tray_room = omega arith;
    right = tt;
  })
