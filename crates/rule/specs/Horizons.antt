-- How far each node looks, from the nodes before it, as the code works it out. Assumes nothing.
use Rattle.std.specs.Prelude.{ℕ, ◌+◌, ◌-◌, ◌*◌, ◌≤◌, max, List, length, slice_index_or}
use Rattle.rule.specs.Limits.{most_nodes, largest_bound}
use Rattle.rule.specs.Tables.{tabled}
use Rattle.rule.specs.declared.horizon.Horizon.{Horizon}
use Rattle.rule.specs.declared.node.Node.{Node}
use Rattle.rule.specs.declared.node.Node.TheVariants.{True, Level, Not, Or, And, Next, Yesterday, Until, Since}

abbrev pub none : Horizon
none = record { wait = 0; reach = 0 }

-- no node of a rule looks further
abbrev pub farthest : ℕ
farthest = most_nodes * largest_bound

-- it looks no further than m either way
abbrev pub Within : ℕ → Horizon → Type 0
Within m x = (x.wait ≤ m) × (x.reach ≤ m)

abbrev pub farther : Horizon → Horizon → Horizon
farther x y = record { wait = max x.wait y.wait; reach = max x.reach y.reach }

abbrev pub later : ℕ → Horizon → Horizon
later h x = record { wait = h + x.wait; reach = x.reach }

abbrev pub earlier : ℕ → Horizon → Horizon
earlier h x = record { wait = x.wait; reach = h + x.reach }

abbrev pub node_horizon : List Horizon → Node → Horizon
node_horizon t True = none
node_horizon t (Level c l) = none
node_horizon t (Not a) = slice_index_or t a none
node_horizon t (Or a b) = farther (slice_index_or t a none) (slice_index_or t b none)
node_horizon t (And a b) = farther (slice_index_or t a none) (slice_index_or t b none)
node_horizon t (Next a l h) = later h (slice_index_or t a none)
node_horizon t (Yesterday a l h) = earlier h (slice_index_or t a none)
node_horizon t (Until a b l h) = later h (farther (slice_index_or t a none) (slice_index_or t b none))
node_horizon t (Since a b l h) = earlier h (farther (slice_index_or t a none) (slice_index_or t b none))

abbrev pub last_horizon : List Node → Horizon
last_horizon ns = slice_index_or (tabled node_horizon ns) (length ns - 1) none
