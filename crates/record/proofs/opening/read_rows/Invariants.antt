use Rattle.std.proofs.Common.{◌≡◌, ℕ, ◌<◌, [], length, get_or}
use Rattle.rule.specs.Limits.{most_nodes}
use Rattle.rule.specs.declared.node.NodeRow.{NodeRow}
use Rattle.record.specs.Format.{node_bytes}
use Rattle.record.proofs.opening.read_rows.Given as goal

abbrev pub invariant-loop-i : goal.invariant-loop-i
invariant-loop-i l = record {
  long : length l.rows ≡ most_nodes;
  read : (k : ℕ) (e : NodeRow) → k < l.i → node_bytes (get_or l.rows k e) ≡ get_or l.nodes k [];
}
