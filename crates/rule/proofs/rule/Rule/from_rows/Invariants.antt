use Rattle.std.proofs.Common.{◌≡◌, ℕ, ◌<◌, length}
use Rattle.rule.specs.Limits.{most_nodes}
use Rattle.rule.proofs.Checks.{Reads}
use Rattle.rule.proofs.rule.Rule.from_rows.Given as goal

abbrev pub invariant-loop-i : goal.invariant-loop-i
invariant-loop-i l = record {
  long : length l.nodes ≡ most_nodes;
  reads : (k : ℕ) → k < l.i → Reads l.rows l.nodes k;
}
