-- The row of a node, and when a node may stand at a place of a rule. Assumes nothing.
use Rattle.std.specs.Prelude.{◌≡◌, ℕ, suc, ◌≤◌, max, Some, None, Option}
use Rattle.rule.specs.Limits.{largest_channel, largest_bound}
use Rattle.rule.specs.declared.node.Node.{Node}
use Rattle.rule.specs.declared.node.Node.TheVariants.{True, Level, Not, Or, And, Next, Yesterday, Until, Since}
use Rattle.rule.specs.declared.node.NodeRow.{NodeRow}

abbrev row : ℕ → ℕ → ℕ → ℕ → ℕ → NodeRow
row k a b l h = record { kind = k; first = a; second = b; low = l; high = h }

-- kind, first, second, low, high; a level's limit is that of codes
abbrev pub row_of : Node → NodeRow
row_of True = row 0 0 0 0 0
row_of (Level c l) = row 1 c 0 l.value 0
row_of (Not a) = row 2 a 0 0 0
row_of (Or a b) = row 3 a b 0 0
row_of (And a b) = row 4 a b 0 0
row_of (Next a l h) = row 5 a 0 l h
row_of (Yesterday a l h) = row 6 a 0 l h
row_of (Until a b l h) = row 7 a b l h
row_of (Since a b l h) = row 8 a b l h

-- the least place at which its operands stand before it
abbrev pub least : Node → ℕ
least True = 0
least (Level c l) = 0
least (Not a) = suc a
least (Or a b) = max (suc a) (suc b)
least (And a b) = max (suc a) (suc b)
least (Next a l h) = suc a
least (Yesterday a l h) = suc a
least (Until a b l h) = max (suc a) (suc b)
least (Since a b l h) = max (suc a) (suc b)

-- its channel, low bound and high bound, each 0 where it has none
abbrev pub channel_of : Node → ℕ
channel_of True = 0
channel_of (Level c l) = c
channel_of (Not a) = 0
channel_of (Or a b) = 0
channel_of (And a b) = 0
channel_of (Next a l h) = 0
channel_of (Yesterday a l h) = 0
channel_of (Until a b l h) = 0
channel_of (Since a b l h) = 0

abbrev pub low_of : Node → ℕ
low_of True = 0
low_of (Level c l) = 0
low_of (Not a) = 0
low_of (Or a b) = 0
low_of (And a b) = 0
low_of (Next a l h) = l
low_of (Yesterday a l h) = l
low_of (Until a b l h) = l
low_of (Since a b l h) = l

abbrev pub high_of : Node → ℕ
high_of True = 0
high_of (Level c l) = 0
high_of (Not a) = 0
high_of (Or a b) = 0
high_of (And a b) = 0
high_of (Next a l h) = h
high_of (Yesterday a l h) = h
high_of (Until a b l h) = h
high_of (Since a b l h) = h

-- the node may stand at place k
abbrev pub Fits : ℕ → Node → Type 0
Fits k n = (least n ≤ k) × (channel_of n ≤ largest_channel) × (low_of n ≤ high_of n) × (high_of n ≤ largest_bound)

-- the answer is the node that the row is of, or there is none that fits at k
abbrev pub Read : ℕ → NodeRow → Option Node → Type 0
Read k r (Some n) = (row_of n ≡ r) × Fits k n
Read k r None = (n : Node) → row_of n ≡ r → Fits k n → ⊥
