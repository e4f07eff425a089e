-- A node is known by its row, so the rows of a rule are the rows of no other nodes. Assumes nothing.
use Rattle.std.proofs.Common.{◌≡◌, ℕ, ◌≤◌, min, cond, eqb, List, [], ◌∷◌, map, sym, refl, ap, ◌∙◌, ap₂, arith}
use mathlib.Core.HLevel.{is_prop→PathP}
use native.Mathlib.Bridge.{le_prop}
use Rattle.scale.specs.Limits.{largest_code}
use Rattle.scale.specs.declared.code.Code.{Code}
use Rattle.rule.specs.Rows.{row_of}
use Rattle.rule.specs.declared.node.Node.{Node}
use Rattle.rule.specs.declared.node.Node.TheVariants.{True, Level, Not, Or, And, Next, Yesterday, Until, Since}
use Rattle.rule.specs.declared.node.NodeRow.{NodeRow}

abbrev code_of : ℕ → Code
code_of n = record { value = min n largest_code; within = omega arith }

same_code : (a b : Code) → a.value ≡ b.value → a ≡ b
same_code a b e j = record { value = e j; within = is_prop→PathP (λ k. e k ≤ largest_code) (λ k. le_prop) a.within b.within j }

-- the node of a row by its kind
abbrev node_of : NodeRow → Node
node_of r =
    cond (eqb r.kind 1) (Level r.first (code_of r.low))
    (cond (eqb r.kind 2) (Not r.first)
    (cond (eqb r.kind 3) (Or r.first r.second)
    (cond (eqb r.kind 4) (And r.first r.second)
    (cond (eqb r.kind 5) (Next r.first r.low r.high)
    (cond (eqb r.kind 6) (Yesterday r.first r.low r.high)
    (cond (eqb r.kind 7) (Until r.first r.second r.low r.high)
    (cond (eqb r.kind 8) (Since r.first r.second r.low r.high) True)))))))

back : (n : Node) → node_of (row_of n) ≡ n
back True = refl
back (Level c l) = ap (Level c) (same_code _ _ (let h = l.within in omega arith))
back (Not a) = refl
back (Or a b) = refl
back (And a b) = refl
back (Next a l h) = refl
back (Yesterday a l h) = refl
back (Until a b l h) = refl
back (Since a b l h) = refl

all_back : (ns : List Node) → map node_of (map row_of ns) ≡ ns
all_back [] = refl
all_back (n ∷ ns) = ap₂ ◌∷◌ (back n) (all_back ns)

pub same_nodes : (ms ns : List Node) → map row_of ms ≡ map row_of ns → ms ≡ ns
same_nodes ms ns e = sym (all_back ms) ∙ ap (map node_of) e ∙ all_back ns
