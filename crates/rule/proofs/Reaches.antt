-- What the horizon of a node rests on. Assumes nothing.
use Rattle.std.proofs.Common.{◌≡◌, ℕ, ◌+◌, ◌-◌, ◌*◌, ◌<◌, ◌≢◌, List, [], ◌∷◌, ◌++◌, length, get_or, take, set, sym, refl, ap, ◌∙◌, arith, take_all, get_or-set_other, get_or-set_same, below_more}
use Rattle.std.proofs.lemmas.List.{get_or-take, take_more_set}
use Rattle.std.proofs.lemmas.List.Sums.{fold_more}
use Rattle.rule.specs.Limits.{largest_bound}
use Rattle.rule.specs.Rows.{Fits}
use Rattle.rule.specs.Tables.{tabled, step, Sound}
use Rattle.rule.specs.Horizons.{none, Within, node_horizon, last_horizon}
use Rattle.rule.specs.declared.node.Node.{Node}
use Rattle.rule.specs.declared.node.Node.TheVariants.{True, Level, Not, Or, And, Next, Yesterday, Until, Since}
use Rattle.rule.specs.declared.horizon.Horizon.{Horizon}

-- it rests on the horizons before it
pub horizon_local : (t : List Horizon) (k : ℕ) (n : Node) → Fits k n → node_horizon (take k t) n ≡ node_horizon t n
horizon_local t k True h = refl
horizon_local t k (Level c l) h = refl
horizon_local t k (Not a) h = let p : a < k = omega arith in rw get_or-take
horizon_local t k (Or a b) h = let p : a < k = omega arith in let q : b < k = omega arith in simp get_or-take
horizon_local t k (And a b) h = let p : a < k = omega arith in let q : b < k = omega arith in simp get_or-take
horizon_local t k (Next a l u) h = let p : a < k = omega arith in simp get_or-take
horizon_local t k (Yesterday a l u) h = let p : a < k = omega arith in simp get_or-take
horizon_local t k (Until a b l u) h = let p : a < k = omega arith in let q : b < k = omega arith in simp get_or-take
horizon_local t k (Since a b l u) h = let p : a < k = omega arith in let q : b < k = omega arith in simp get_or-take

pub horizon_bound : (m : ℕ) (t : List Horizon) (k : ℕ) (n : Node) → Fits k n → ((j : ℕ) → j < k → Within m (get_or t j none)) → Within (m + largest_bound) (node_horizon t n)
horizon_bound m t k True h b = (omega arith, omega arith)
horizon_bound m t k (Level c l) h b = (omega arith, omega arith)
horizon_bound m t k (Not x) h b = let p = b x (omega arith) in (omega arith, omega arith)
horizon_bound m t k (Or x y) h b = let p = b x (omega arith) in let q = b y (omega arith) in (omega arith, omega arith)
horizon_bound m t k (And x y) h b = let p = b x (omega arith) in let q = b y (omega arith) in (omega arith, omega arith)
horizon_bound m t k (Next x l u) h b = let p = b x (omega arith) in (omega arith, omega arith)
horizon_bound m t k (Yesterday x l u) h b = let p = b x (omega arith) in (omega arith, omega arith)
horizon_bound m t k (Until x y l u) h b = let p = b x (omega arith) in let q = b y (omega arith) in (omega arith, omega arith)
horizon_bound m t k (Since x y l u) h b = let p = b x (omega arith) in let q = b y (omega arith) in (omega arith, omega arith)

module _ (t : List Horizon) (ns : List Node) (i : ℕ) (s : Horizon) (sound : Sound ns) (h : i < length ns) (w : i < length t) (e : s ≡ node_horizon (take i t) (get_or ns i True)) where
  pub table_more : take i t ≡ tabled node_horizon (take i ns) → take (i + 1) (set t i s) ≡ tabled node_horizon (take (i + 1) ns)
  table_more inv =
      take_more_set t i s w
      ∙ ap (λ x. take i t ++ (x ∷ [])) e
      ∙ ap (λ u. step node_horizon u (get_or ns i True)) inv
      ∙ sym (fold_more (step node_horizon) [] ns i True h)

  pub bound_more : ((j : ℕ) → j < i → Within (largest_bound * i) (get_or t j none)) → (j : ℕ) → j < i + 1 → Within (largest_bound * (i + 1)) (get_or (set t i s) j none)
  bound_more inv =
      below_more _ _
      (λ j l. let ne : j ≢ i = omega arith in let b = inv j l in rw get_or-set_other (omega arith, omega arith))
      (rw (get_or-set_same, e) (let b = horizon_bound (largest_bound * i) (take i t) i (get_or ns i True) (sound i h) (λ j l. rw get_or-take (inv j l)) in (omega arith, omega arith)))

-- the last entry of the table is that of the last node
pub table_all : (t : List Horizon) (ns : List Node) (i : ℕ) → 0 < length ns → i ≡ length ns → take i t ≡ tabled node_horizon (take i ns) → get_or t (length ns - 1) none ≡ last_horizon ns
table_all t ns i h e inv =
    sym (get_or-take i t (length ns - 1) none (omega arith))
    ∙ ap (λ u. get_or u (length ns - 1) none) (inv ∙ ap (tabled node_horizon) (take_all i ns (omega arith)))
