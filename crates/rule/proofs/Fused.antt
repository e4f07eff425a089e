-- The horizon worked out node by node is that of the formula. Assumes nothing.
use Rattle.std.proofs.Common.{◌≡◌, ◌-◌, List, [], ◌∷◌, ◌++◌, map, length, get_or, fold, sym, refl, ap, ◌∙◌}
use lib.ListN.{get_or-map}
use Rattle.std.proofs.lemmas.List.{map-append}
use Rattle.logic.specs.Formula.{Formula, truth, wait, reach}
use Rattle.rule.specs.Horizons.{none, node_horizon, last_horizon}
use Rattle.rule.specs.Tables.{step, tabled, formula_of, formula}
use Rattle.rule.specs.declared.horizon.Horizon.{Horizon}
use Rattle.rule.specs.declared.node.Node.{Node}
use Rattle.rule.specs.declared.node.Node.TheVariants.{True, Level, Not, Or, And, Next, Yesterday, Until, Since}

-- a table of what h gives of another table's entries
module _ {X Y : Type 0} (h : X → Y) (f : List X → Node → X) (g : List Y → Node → Y) (over : (t : List X) (n : Node) → g (map h t) n ≡ h (f t n)) where
  fused_from : (t : List X) (ns : List Node) → fold (step g) (map h t) ns ≡ map h (fold (step f) t ns)
  fused_from t [] = refl
  fused_from t (n ∷ ns) = ap (λ u. fold (step g) u ns) (ap (λ y. map h t ++ (y ∷ [])) (over t n) ∙ sym (map-append h t (f t n ∷ []))) ∙ fused_from (step f t n) ns

  pub fused : (ns : List Node) → tabled g ns ≡ map h (tabled f ns)
  fused ns = fused_from [] ns

abbrev horizon : Formula → Horizon
horizon A = record { wait = wait A; reach = reach A }

over : (t : List Formula) (n : Node) → node_horizon (map horizon t) n ≡ horizon (formula_of t n)
over t True = refl
over t (Level c l) = refl
over t (Not a) = get_or-map horizon t a truth
over t (Or a b) = rw (get_or-map horizon t a truth, get_or-map horizon t b truth)
over t (And a b) = rw (get_or-map horizon t a truth, get_or-map horizon t b truth)
over t (Next a l h) = rw (get_or-map horizon t a truth)
over t (Yesterday a l h) = rw (get_or-map horizon t a truth)
over t (Until a b l h) = rw (get_or-map horizon t a truth, get_or-map horizon t b truth)
over t (Since a b l h) = rw (get_or-map horizon t a truth, get_or-map horizon t b truth)

pub last_horizon_lem : (ns : List Node) → last_horizon ns ≡ record { wait = wait (formula ns); reach = reach (formula ns) }
last_horizon_lem ns = ap (λ t. get_or t (length ns - 1) none) (fused horizon formula_of node_horizon over ns) ∙ get_or-map horizon (tabled formula_of ns) (length ns - 1) truth
