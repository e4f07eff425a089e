use Rattle.std.proofs.Common.{◌≡◌, ℕ, ◌*◌, ◌<◌, length, get_or, take}
use Rattle.rule.specs.Limits.{largest_bound}
use Rattle.rule.specs.Tables.{tabled}
use Rattle.rule.specs.Horizons.{none, Within, node_horizon}
use Rattle.rule.proofs.horizon.Horizon.of_last.Given as goal

abbrev pub invariant-loop-i : goal.invariant-loop-i
invariant-loop-i l = record {
  long : length l.table ≡ 32;
  tabled_so_far : take l.i l.table ≡ tabled node_horizon (take l.i l.nodes);
  near : (j : ℕ) → j < l.i → Within (largest_bound * l.i) (get_or l.table j none);
}
