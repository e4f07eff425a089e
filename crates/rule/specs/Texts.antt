-- The texts of a node and of a rule. Assumes nothing.
use Rattle.std.specs.Fmt.{debug_list}
use Rattle.std.specs.Prelude.{ℕ, List, ◌++◌, Option, Some, codes, decimal}
use Rattle.rule.specs.Made.{nodes_of}
use Rattle.rule.specs.declared.rule.Rule.{Rule}
use Rattle.rule.specs.declared.node.Node.{Node}
use Rattle.rule.specs.declared.node.Node.TheVariants.{True, Level, Not, Or, And, Next, Yesterday, Until, Since}

-- bounds, in brackets
abbrev bounds : ℕ → ℕ → List ℕ
bounds l h = codes "[" ++ (decimal l ++ (codes "," ++ (decimal h ++ codes "] ")))

abbrev pub node_text : Node → List ℕ
node_text True = codes "true"
node_text (Level c l) = codes "channel " ++ (decimal c ++ (codes " at least " ++ decimal l.value))
node_text (Not a) = codes "not " ++ decimal a
node_text (Or a b) = decimal a ++ (codes " or " ++ decimal b)
node_text (And a b) = decimal a ++ (codes " and " ++ decimal b)
node_text (Next a l h) = codes "next" ++ (bounds l h ++ decimal a)
node_text (Yesterday a l h) = codes "yesterday" ++ (bounds l h ++ decimal a)
node_text (Until a b l h) = decimal a ++ (codes " until" ++ (bounds l h ++ decimal b))
node_text (Since a b l h) = decimal a ++ (codes " since" ++ (bounds l h ++ decimal b))

-- the nodes of a rule in brackets, with commas between
abbrev pub rule_text : Rule → Option (List ℕ)
rule_text r = debug_list (λ n. Some (node_text n)) (nodes_of r)
