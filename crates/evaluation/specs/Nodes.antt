-- The two ends of a node from those of its operands, and what evaluating a rule leaves in the cells. Assumes nothing.
use Rattle.std.specs.Prelude.{◌≡◌, ℕ, ◌+◌, ◌-◌, ◌*◌, ◌^◌, ◌<◌, ◌≤◌, ◌≢◌, List, length, slice_index_or}
use Rattle.scale.specs.Laws.{Ops}
use Rattle.sample.specs.declared.row.SampleRow.{SampleRow}
use Rattle.logic.specs.Meaning.{Ends, ends}
use Rattle.logic.specs.Trace.{Trace}
use Rattle.rule.specs.Tables.{formula_at}
use Rattle.rule.specs.declared.node.Node.{Node}
use Rattle.rule.specs.declared.node.Node.TheVariants.{True, Level, Not, Or, And, Next, Yesterday, Until, Since}
use Rattle.evaluation.specs.Connectives.{until_ends, since_ends, next_ends, yesterday_ends}
use Rattle.evaluation.specs.Memory.{Climbs, no_cell, place, cell_at, window, ends_in, kept_ends}
use Rattle.evaluation.specs.declared.memory.Cell.{Cell}

module _ {V : Type 0} (O : Ops V) (σ : Trace) where
  -- the ends of a node at the j-th position, where E has those of the nodes before it
  abbrev pub node_ends : (ℕ → ℕ → V) → (ℕ → ℕ → Ends V) → Node → ℕ → Ends V
  node_ends read E True j = record { low = O.best; high = O.best }
  node_ends read E (Level c l) j = record { low = read (σ.code j c) l.value; high = read (σ.code j c) l.value }
  node_ends read E (Not a) j = record { low = O.turned (E a j).high; high = O.turned (E a j).low }
  node_ends read E (Or a b) j = record { low = O.or (E a j).low (E b j).low; high = O.or (E a j).high (E b j).high }
  node_ends read E (And a b) j = record { low = O.and (E a j).low (E b j).low; high = O.and (E a j).high (E b j).high }
  node_ends read E (Next a l h) j = next_ends O σ l h (E a) j
  node_ends read E (Yesterday a l h) j = yesterday_ends O σ l h (E a) j
  node_ends read E (Until a b l h) j = until_ends O σ l h (E a) (E b) j
  node_ends read E (Since a b l h) j = since_ends O σ l h (E a) (E b) j

-- where P holds, from the cells ys come xs by writing node m's cells at the positions from .. j - 1 of the window
pub record Written (P : Type 0) (C m first from : ℕ) (cell : ℕ → Cell) (ys xs : List Cell) (j : ℕ) : Type 0 where
  pub done : P → (k : ℕ) → from ≤ k → k < j → cell_at xs C m (first + k) ≡ cell k
  pub rest : (i : ℕ) → ((k : ℕ) → from ≤ k → k < j → i ≢ place C m (first + k)) → slice_index_or xs i no_cell ≡ slice_index_or ys i no_cell

module _ {V : Type 0} (o : Ops V) (read : ℕ → ℕ → V) (rows : List SampleRow) (first count : ℕ) where
  -- a node's cell at the k-th position, from the cells in memory
  abbrev pub node_cell : List Cell → Node → ℕ → Cell
  node_cell cells n k = kept_ends o (node_ends o (window rows first count) read (ends_in o cells (length rows) first) n k)

  -- the kept numbers of the ends that the logic gives node m at the k-th position, over the window's samples
  abbrev pub true_cell : List Node → ℕ → ℕ → Cell
  true_cell ns m k = kept_ends o (ends o read (window rows first count) (formula_at ns m) k)

  -- the first m nodes have their cells, and nothing else changed from ys to xs
  pub record Held (ns : List Node) (ys xs : List Cell) (m : ℕ) : Type 0 where
    pub cells : Climbs (window rows first count) → (a k : ℕ) → a < m → k < count → cell_at xs (length rows) a (first + k) ≡ true_cell ns a k
    pub rest : (i : ℕ) → ((a k : ℕ) → a < m → k < count → i ≢ place (length rows) a (first + k)) → slice_index_or xs i no_cell ≡ slice_index_or ys i no_cell

  -- what evaluating a rule leaves: where stamps do not fall, the cells of each node are those of the logic, the last node's
  -- from position `from` of the window on; and no other cell changed
  pub record Evaluated (from : ℕ) (ns : List Node) (ys xs : List Cell) : Type 0 where
    pub before : Climbs (window rows first count) → (a k : ℕ) → a < length ns - 1 → k < count → cell_at xs (length rows) a (first + k) ≡ true_cell ns a k
    pub last : Climbs (window rows first count) → (k : ℕ) → from ≤ k → k < count → cell_at xs (length rows) (length ns - 1) (first + k) ≡ true_cell ns (length ns - 1) k
    pub rest :
        (i : ℕ) →
        ((a k : ℕ) → a < length ns - 1 → k < count → i ≢ place (length rows) a (first + k)) →
        ((k : ℕ) → from ≤ k → k < count → i ≢ place (length rows) (length ns - 1) (first + k)) →
        slice_index_or xs i no_cell ≡ slice_index_or ys i no_cell

-- what can be asked for, by numbers: places for all positions, cells for all nodes, and positions that 64 bits can count
pub record Asked (places cells first count from nodes : ℕ) : Type 0 where
  pub some : 0 < places
  pub held : count ≤ places
  pub begun : from ≤ count
  pub fits : nodes * places ≤ cells
  pub near : first + count < 2 ^ 64
