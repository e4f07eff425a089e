-- Every sample is accepted and read once, in order. Assumes nothing.
use Rattle.std.proofs.Common.{◌≡◌, ℕ, ◌+◌, ◌-◌, List, [], ◌∷◌, ◌++◌, map, sym, ap, ◌∙◌, subst, ap₂, append_assoc, zero-add, arith}
use mathlib.Core.List.{map-append}
use Rattle.std.specs.List.{range_with_len, AllByRecursion}
use Rattle.sample.specs.Coming.{Coming}
use Rattle.scale.specs.Laws.{Ops, Laws}
use Rattle.world.proofs.Keep.{drawn, taken, pulled, captured}
use Rattle.world.proofs.Moves.{first_of, unrefused}
use Rattle.world.proofs.Start.{holds, after_join}
use Rattle.world.proofs.Tallies.{counting_join}
use Rattle.world.specs.Law.{world, got, draws, takes, pulls, Reads, Accounting}
use Rattle.world.specs.Steps.{rule_in, accepted, next_sample, newly, reading_in, oldest, answered, step, after}
use Rattle.world.specs.World.{Sizes, World, unused}
use Rattle.world.specs.declared.answer.Answer.TheVariants as answer
use Rattle.world.specs.declared.answer.Drawn.{Drawn}
use Rattle.world.specs.declared.call.Call.{Call}
use Rattle.world.specs.declared.call.Call.TheVariants.{Draw, Take, Pull}
use Rattle.world.specs.declared.reading.Reading.{Reading}

module _ {V : Type 0} (ops : Ops V) (read : ℕ → ℕ → V) (s : Sizes) where
  -- what accepted draws, takes and pulls answer
  drew : (w : World V) (d : Drawn) → (step ops read s Draw w).1 ≡ answer.Drew d → d.position ≡ accepted w
  drew w d e =
      let a = (unrefused ops read s Draw w (λ why f. cc)).1 in
      let same : answered ops read Draw w ≡ answer.Drew d = sym (ap (λ x. x.1) a) ∙ e in
      let says : ◌≡◌ {A = Drawn} (record { position = accepted w; settled = newly ops read w (next_sample w) }) d = cc in
      sym (ap (λ x. x.position) says)

  took : (w : World V) (p : ℕ) → (step ops read s Take w).1 ≡ answer.Took p → p ≡ w.taken
  took w p e =
      let a = (unrefused ops read s Take w (λ why f. cc)).1 in
      let same : answered ops read Take w ≡ answer.Took p = sym (ap (λ x. x.1) a) ∙ e in
      cc

  pulled_off : (w : World V) (r : Reading V) → (step ops read s Pull w).1 ≡ answer.Pulled r → w.tray ≡ r ∷ (step ops read s Pull w).0.tray
  pulled_off w r e =
      let a = unrefused ops read s Pull w (λ why f. cc) in
      let same : answered ops read Pull w ≡ answer.Pulled r = sym (ap (λ x. x.1) a.1) ∙ e in
      let says : oldest ops read w ≡ r = cc in
      first_of w.tray (reading_in ops read w) a.0.0 ∙ ap₂ (λ x w'. x ∷ w'.tray) says (sym (ap (λ x. x.0) a.1))

module _ {V : Type 0} {ops : Ops V} (laws : Laws ops) (read : ℕ → ℕ → V) (s : Sizes) (source : Coming) where
  pub accounting : Accounting ops read s source
  unfolding after
  accounting =
      let W = world ops read s source in
      let G = got ops read s source in
      let K = holds laws read s source in
      let out : (cs : List Call) → (W cs).pulled ≡ pulls (G cs) = λ cs. pulled ops read s cs (unused source) in
      let in_all : (cs : List Call) → accepted (W cs) ≡ draws (G cs) = λ cs. drawn ops read s cs (unused source) ∙ zero-add _ in
      let out-all : (cs : List Call) → (W cs).taken ≡ takes (G cs) = λ cs. taken ops read s cs (unused source) ∙ zero-add _ in
      record {
        counts = λ cs.
            let w = W cs in
            let position = λ (r : Reading V). r.position in
            let few = (K cs).few in
            let total : 0 + (w.taken + (accepted w - w.taken)) ≡ draws (G cs) = let e = in_all cs in omega arith in
            rw (← out cs) (
            sym (append_assoc (map position w.pulled) (map position w.tray) (range_with_len w.taken (accepted w - w.taken)))
            ∙ ap (λ x. x ++ range_with_len w.taken (accepted w - w.taken)) (sym (map-append position w.pulled w.tray) ∙ (K cs).order)
            ∙ ap (λ k. range_with_len 0 w.taken ++ range_with_len k (accepted w - w.taken)) (sym (zero-add w.taken))
            ∙ sym (counting_join 0 w.taken (accepted w - w.taken))
            ∙ ap (range_with_len 0) (sym (zero-add _) ∙ total));
        readings = λ cs. subst (λ x. AllByRecursion (Reads ops read (rule_in (W cs)) (W cs).capture) (x ++ (W cs).tray)) (out cs) (K cs).right;
        positions = λ cs. record {
          drew = λ d e. drew ops read s (W cs) d e ∙ in_all cs;
          took = λ p e. took ops read s (W cs) p e ∙ out-all cs;
          pulled = λ r e. pulled_off ops read s (W cs) r e ∙ ap (λ w. r ∷ w.tray) (sym (after_join ops read s cs (Pull ∷ []) _));
        };
        samples = λ cs. record {
          peeks = captured ops read s cs (unused source);
          rises = (K cs).up;
          one_each = in_all cs;
          taken_each = out-all cs;
          pulled_is = out cs;
          whole = (K cs).whole;
          ends_as = (K cs).ends_as;
        };
      }
