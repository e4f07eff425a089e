-- What the nodes of a rule stand for: the entry of a node comes from the entries before it. Assumes nothing.
use Rattle.std.specs.Prelude.{ℕ, ◌-◌, ◌<◌, List, [], ◌∷◌, ◌++◌, length, fold, slice_index_or}
use Rattle.logic.specs.Formula.{Formula, truth, level, neg, either, both, next, yesterday, until, since}
use Rattle.rule.specs.Rows.{Fits}
use Rattle.rule.specs.declared.node.Node.{Node}
use Rattle.rule.specs.declared.node.Node.TheVariants.{True, Level, Not, Or, And, Next, Yesterday, Until, Since}

module _ {X : Type 0} (f : List X → Node → X) where
  abbrev pub step : List X → Node → List X
  step t n = t ++ (f t n ∷ [])

  abbrev pub tabled : List Node → List X
  tabled ns = fold step [] ns

-- every node fits at its place
abbrev pub Sound : List Node → Type 0
Sound ns = (k : ℕ) → k < length ns → Fits k (slice_index_or ns k True)

-- the formula of a node, from those of the nodes before it
abbrev pub formula_of : List Formula → Node → Formula
formula_of t True = truth
formula_of t (Level c l) = level c l.value
formula_of t (Not a) = neg (slice_index_or t a truth)
formula_of t (Or a b) = either (slice_index_or t a truth) (slice_index_or t b truth)
formula_of t (And a b) = both (slice_index_or t a truth) (slice_index_or t b truth)
formula_of t (Next a l h) = next l h (slice_index_or t a truth)
formula_of t (Yesterday a l h) = yesterday l h (slice_index_or t a truth)
formula_of t (Until a b l h) = until l h (slice_index_or t a truth) (slice_index_or t b truth)
formula_of t (Since a b l h) = since l h (slice_index_or t a truth) (slice_index_or t b truth)

-- the formula that node m stands for
abbrev pub formula_at : List Node → ℕ → Formula
formula_at ns m = slice_index_or (tabled formula_of ns) m truth

-- the formula of a rule is that of its last node
abbrev pub formula : List Node → Formula
formula ns = formula_at ns (length ns - 1)
