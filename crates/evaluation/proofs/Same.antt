-- What a node's ends rest on, and that they are the ends of its formula. Assumes nothing.
use Rattle.std.proofs.Common.{◌≡◌, ℕ, suc, ◌+◌, ◌<◌, T, ltb, List, length, get_or, take, sym, refl, ap, ◌∙◌, ap₂, subst, arith, ltb→lt}
use Rattle.std.proofs.lemmas.List.{get_or-take}
use Rattle.scale.specs.Laws.{Ops}
use Rattle.logic.specs.Values.{when}
use Rattle.logic.specs.Trace.{Trace}
use Rattle.logic.specs.Formula.{Formula, truth}
use Rattle.logic.specs.Meaning.{Ends, ends}
use Rattle.logic.proofs.Rows.{equal_kept, when_rel, cond_rel, all_rel, until_rel, since_rel, yesterday_rel}
use Rattle.rule.specs.Rows.{Fits}
use Rattle.rule.specs.Tables.{tabled, Sound, formula_of, formula_at}
use Rattle.rule.specs.declared.node.Node.{Node}
use Rattle.rule.specs.declared.node.Node.TheVariants.{True, Level, Not, Or, And, Next, Yesterday, Until, Since}
use Rattle.rule.proofs.Entries.{entry}
use Rattle.evaluation.specs.Memory.{Climbs, cell_at, ends_in}
use Rattle.evaluation.specs.Nodes.{node_ends}
use Rattle.evaluation.specs.Views.{trace_in, cell_in, ends_at}
use Rattle.evaluation.specs.declared.memory.Cell.{Cell}
use Rattle.evaluation.specs.declared.ring.Ring.{Ring}
use Rattle.evaluation.specs.declared.view.View.{View}

module _ {V : Type 0} where
  two : {a b c d : V} → a ≡ b → c ≡ d → ◌≡◌ {A = Ends V} (record { low = a; high = c }) (record { low = b; high = d })
  two p q = ap₂ (λ x y. record { low = x; high = y }) p q

  low_of : {a b : Ends V} → a ≡ b → a.low ≡ b.low
  low_of e = ap (λ x. x.low) e

  high_of : {a b : Ends V} → a ≡ b → a.high ≡ b.high
  high_of e = ap (λ x. x.high) e

module _ {V : Type 0} (O : Ops V) (σ : Trace) (read : ℕ → ℕ → V) (E E' : ℕ → ℕ → Ends V) (m j : ℕ) (here : j < σ.size) (h : (a k : ℕ) → a < m → k < σ.size → E a k ≡ E' a k) where
  -- a node's ends rest on the ends of earlier nodes within the window
  pub node_same : (n : Node) → Fits m n → node_ends O σ read E n j ≡ node_ends O σ read E' n j
  node_same True f = refl
  node_same (Level c l) f = refl
  node_same (Not a) f = let e = h a j (omega arith) here in two (ap O.turned (high_of e)) (ap O.turned (low_of e))
  node_same (Or a b) f = let e = h a j (omega arith) here in let d = h b j (omega arith) here in two (ap₂ O.or (low_of e) (low_of d)) (ap₂ O.or (high_of e) (high_of d))
  node_same (And a b) f = let e = h a j (omega arith) here in let d = h b j (omega arith) here in two (ap₂ O.and (low_of e) (low_of d)) (ap₂ O.and (high_of e) (high_of d))
  node_same (Next a l u) f =
      let later : T (ltb (suc j) σ.size) → E a (suc j) ≡ E' a (suc j) = λ t. h a (suc j) (omega arith) (ltb→lt _ _ t) in
      two
      (when_rel (equal_kept O) _ (λ t. when_rel (equal_kept O) _ (λ w. low_of (later t))))
      (cond_rel (equal_kept O) _ (λ t. when_rel (equal_kept O) _ (λ w. high_of (later t))) (λ _. refl))
  node_same (Yesterday a l u) f =
      two
      (yesterday_rel (equal_kept O) j (λ k e. refl) (λ k e w. low_of (h a k (omega arith) (omega arith))))
      (yesterday_rel (equal_kept O) j (λ k e. refl) (λ k e w. high_of (h a k (omega arith) (omega arith))))
  node_same (Until a b l u) f =
      two
      (until_rel (equal_kept O) σ.size j (λ k p q. refl) (λ k p q w. (λ i s t. low_of (h a i (omega arith) (omega arith)), low_of (h b k (omega arith) q))))
      (ap₂ O.or
      (until_rel (equal_kept O) σ.size j (λ k p q. refl) (λ k p q w. (λ i s t. high_of (h a i (omega arith) (omega arith)), high_of (h b k (omega arith) q))))
      (ap (when O _) (all_rel (equal_kept O) _ _ j _ (λ k p q. high_of (h a k (omega arith) (omega arith))))))
  node_same (Since a b l u) f =
      two
      (since_rel (equal_kept O) j (λ k p. refl) (λ k p w. (λ i s t. low_of (h a i (omega arith) (omega arith)), low_of (h b k (omega arith) (omega arith)))))
      (since_rel (equal_kept O) j (λ k p. refl) (λ k p w. (λ i s t. high_of (h a i (omega arith) (omega arith)), high_of (h b k (omega arith) (omega arith)))))

formula_local : (t : List Formula) (k : ℕ) (n : Node) → Fits k n → formula_of (take k t) n ≡ formula_of t n
formula_local t k True h = refl
formula_local t k (Level c l) h = refl
formula_local t k (Not a) h = let p : a < k = omega arith in simp get_or-take
formula_local t k (Or a b) h = let p : a < k = omega arith in let q : b < k = omega arith in simp get_or-take
formula_local t k (And a b) h = let p : a < k = omega arith in let q : b < k = omega arith in simp get_or-take
formula_local t k (Next a l u) h = let p : a < k = omega arith in simp get_or-take
formula_local t k (Yesterday a l u) h = let p : a < k = omega arith in simp get_or-take
formula_local t k (Until a b l u) h = let p : a < k = omega arith in let q : b < k = omega arith in simp get_or-take
formula_local t k (Since a b l u) h = let p : a < k = omega arith in let q : b < k = omega arith in simp get_or-take

module _ {V : Type 0} (O : Ops V) (read : ℕ → ℕ → V) (σ : Trace) where
  node_formula : (t : List Formula) (n : Node) (j : ℕ) → node_ends O σ read (λ a. ends O read σ (get_or t a truth)) n j ≡ ends O read σ (formula_of t n) j
  unfolding ends
  node_formula t True j = refl
  node_formula t (Level c l) j = refl
  node_formula t (Not a) j = refl
  node_formula t (Or a b) j = refl
  node_formula t (And a b) j = refl
  node_formula t (Next a l u) j = refl
  node_formula t (Yesterday a l u) j = refl
  node_formula t (Until a b l u) j = refl
  node_formula t (Since a b l u) j = refl

  -- a node's ends over those of the trees before it are those of its tree
  pub node_tree : (ns : List Node) (m j : ℕ) → Sound ns → m < length ns → node_ends O σ read (λ a. ends O read σ (formula_at ns a)) (get_or ns m True) j ≡ ends O read σ (formula_at ns m) j
  node_tree ns m j sound h =
      node_formula (tabled formula_of ns) (get_or ns m True) j
      ∙ ap (λ φ. ends O read σ φ j) (sym (entry formula_of formula_local ns sound m truth h))

-- a node may be given in other words
pub at_node : {V : Type 0} (o : Ops V) (σ : Trace) (read : ℕ → ℕ → V) (E : ℕ → ℕ → Ends V) (j : ℕ) {e : Ends V} {n n' : Node} → n' ≡ n → e ≡ node_ends o σ read E n j → e ≡ node_ends o σ read E n' j
at_node o σ read E j e h = h ∙ ap (λ n. node_ends o σ read E n j) (sym e)

-- what is read from a node's ring is what is read from the memory that the ring is in
pub ring_is : {V : Type 0} (o : Ops V) (v : View) (cells : List Cell) (r : Ring) (a : ℕ) → ((k : ℕ) → cell_in r k ≡ cell_at cells (length v.rows.now) a (v.start + k)) → ends_at o r ≡ ends_in o cells (length v.rows.now) v.start a
ring_is o v cells r a h = λ i k. record { low = o.restored (h k i).low; high = o.restored (h k i).high }

-- what a connective gives over the ring of a node, in the words of the memory that the ring is in
pub over_ring :
    {V : Type 0} (F : Trace → (ℕ → Ends V) → Ends V) (v : View) {w : View} {e : Ends V} {A A' : ℕ → Ends V} →
    w ≡ v →
    A ≡ A' →
    (Climbs (trace_in w) → e ≡ F (trace_in w) A) →
    Climbs (trace_in v) → e ≡ F (trace_in v) A'
over_ring F v q p f up = f (subst (λ w. Climbs (trace_in w)) (sym q) up) ∙ ap₂ F (ap trace_in q) p
