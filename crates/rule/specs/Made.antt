-- What making a rule from plain rows answers. Assumes nothing.
use Rattle.std.specs.Prelude.{◌≡◌, ℕ, ◌-◌, ◌<◌, ◌≤◌, true, ◌⊎◌, List, map, length, take, is_ok, Ok, Err, Result, slice_index_or}
use Rattle.refusal.specs.declared.Misfit.{Misfit}
use Rattle.refusal.specs.declared.Refusal.TheVariants as refusal
use Rattle.logic.specs.Formula.{span}
use Rattle.rule.specs.Limits.{most_nodes, largest_span}
use Rattle.rule.specs.Rows.{Fits, row_of}
use Rattle.rule.specs.Tables.{Sound, formula}
use Rattle.rule.specs.declared.node.Node.{Node}
use Rattle.rule.specs.declared.node.Node.TheVariants.{True}
use Rattle.rule.specs.declared.node.NodeRow.{NodeRow}
use Rattle.rule.specs.declared.rule.Rule.{Rule}

abbrev pub nodes_of : Rule → List Node
nodes_of r = take r.count r.nodes

-- some node that fits at k has the row at k
abbrev pub Stands : List NodeRow → ℕ → Type 0
Stands rows k = (n : Node) × (row_of n ≡ slice_index_or rows k (row_of True)) × Fits k n

-- rows are refused by the first of three tests that fails: their count, each of them in turn, and the span of the last
pub data Refused (rows : List NodeRow) (m : Misfit) : Type 0 where
  wrong_count : m ≡ record { refusal = refusal.Count; place = 0 } → (length rows ≡ 0) ⊎ (most_nodes < length rows) → Refused rows m
  no_node :
      (i : ℕ) →
      m ≡ record { refusal = refusal.Node; place = i } →
      length rows ≤ most_nodes →
      i < length rows →
      ((k : ℕ) → k < i → Stands rows k) →
      (Stands rows i → ⊥) →
      Refused rows m
  too_far :
      (ns : List Node) →
      m ≡ record { refusal = refusal.Span; place = length rows - 1 } →
      0 < length rows →
      length rows ≤ most_nodes →
      map row_of ns ≡ rows →
      Sound ns →
      largest_span < span (formula ns) →
      Refused rows m

-- the answer is the rule whose nodes have these rows, or a refusal
abbrev pub Made : List NodeRow → Result Rule Misfit → Type 0
Made rows (Ok r) = map row_of (nodes_of r) ≡ rows
Made rows (Err m) = Refused rows m

-- and there is no other: rows of a rule are never refused, and other rows by one refusal only
pub record Exactly (rows : List NodeRow) (a : Result Rule Misfit) : Type 0 where
  pub makes : (r : Rule) → map row_of (nodes_of r) ≡ rows → is_ok a ≡ true
  pub refuses : (m : Misfit) → Refused rows m → a ≡ Err m
