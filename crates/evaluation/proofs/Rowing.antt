-- One write more in a row, and one row more. Assumes nothing.
use Rattle.std.proofs.Common.{◌≡◌, ℕ, ◌+◌, ◌-◌, ◌*◌, ◌%◌, ◌<◌, ◌≤◌, ◌≢◌, List, [], ◌∷◌, ◌++◌, length, length-append, slice_index, get_or, set, sym, refl, ap, ◌∙◌, subst, ap₂, ⊎_elim, arith}
use Rattle.std.proofs.Math.Nat.{mod-add-mod}
use Rattle.std.proofs.lemmas.List.{get_or-set_same, get_or-set_other, get_or_read, get_or_push, get_or_append_left, set-append_right}
use Rattle.std.proofs.lemmas.Bool.{cases_eq}
use Rattle.logic.specs.Meaning.{ends}
use Rattle.scale.specs.Laws.{Ops, Laws}
use Rattle.rule.specs.Rows.{Fits}
use Rattle.rule.specs.Tables.{Sound}
use Rattle.rule.specs.declared.node.Node.{Node}
use Rattle.rule.specs.declared.node.Node.TheVariants.{True}
use Rattle.evaluation.specs.Memory.{Climbs, no_cell, place, cell_at, row_in, window, ends_in, kept_ends}
use Rattle.rule.specs.Tables.{formula_at}
use Rattle.evaluation.specs.Nodes.{node_ends, node_cell, true_cell, Written, Held, Evaluated}
use Rattle.evaluation.specs.declared.memory.Cell.{Cell}
use Rattle.sample.specs.declared.row.SampleRow.{SampleRow}
use Rattle.evaluation.proofs.Places.{place_apart, place_earlier, place_below}
use Rattle.evaluation.proofs.Same.{node_same, node_tree}

-- a cell in other words
pub cell_same : {V : Type 0} (o : Ops V) {c : Cell} {low high low' high' : V} → c ≡ kept_ends o (record { low = low; high = high }) → low ≡ low' → high ≡ high' → c ≡ kept_ends o (record { low = low'; high = high' })
cell_same o e p q = e ∙ ap₂ (λ x y. kept_ends o (record { low = x; high = y })) p q

-- the nodes of a list whose last is taken apart
module _ (ns others : List Node) (last : Node) (apart : ns ≡ others ++ last ∷ []) where
  pub other_is : (m : ℕ) (n : Node) → m < length others → n ≡ get_or others m n → n ≡ get_or ns m True
  other_is m n l e = get_or_read others m n l e True ∙ sym (get_or_append_left others (last ∷ []) True m l) ∙ ap (λ ms. get_or ms m True) (sym apart)

  pub last_is : last ≡ get_or ns (length others) True
  last_is = sym (get_or_push others last True (length others) refl) ∙ ap (λ ms. get_or ms (length others) True) (sym apart)

module _ (P : Type 0) (C m first from : ℕ) (cell : ℕ → Cell) (ys xs : List Cell) where
  pub written_none : Written P C m first from cell ys ys from
  written_none = record { done = λ _ k a b. absurd (omega arith); rest = λ i n. refl }

  pub written_more : (j : ℕ) (v : Cell) → Written P C m first from cell ys xs j → from ≤ j → j < from + C → place C m (first + j) < length xs → (P → v ≡ cell j) → Written P C m first from cell ys (set xs (place C m (first + j)) v) (j + 1)
  written_more j v w a b l e = record {
    done = λ u k p q.
        ⊎_elim
        (λ (s : k ≡ j). subst (λ n. get_or (set xs (place C m (first + j)) v) (place C m (first + n)) no_cell ≡ cell n) (sym s) (get_or-set_same xs (place C m (first + j)) v no_cell l ∙ e u))
        (λ (n : k ≢ j).
        let before : k < j = omega arith in
        get_or-set_other xs (place C m (first + j)) (place C m (first + k)) v no_cell (place_apart C m (first + k) (first + j) (omega arith) (omega arith)) ∙ w.done u k p before)
        (cases_eq k j);
    rest = λ i n. get_or-set_other xs (place C m (first + j)) i v no_cell (n j a (omega arith)) ∙ w.rest i (λ k p q. n k p (omega arith));
  }

  pub written_at : (j s : ℕ) (v : Cell) → Written P C m first from cell ys xs j → from ≤ j → j < from + C → s ≡ place C m (first + j) → s < length xs → (P → v ≡ cell j) → Written P C m first from cell ys (set xs s v) (j + 1)
  written_at j s v w a b e l h = subst (λ n. Written P C m first from cell ys (set xs n v) (j + 1)) (sym e) (written_more j v w a b (omega arith) h)

  pub written_all : (j n : ℕ) → j ≡ n → Written P C m first from cell ys xs j → Written P C m first from cell ys xs n
  written_all j n e w = subst (Written P C m first from cell ys xs) e w

-- the write of a cell, where the ring of node m comes after the cells of the nodes before it
pub written_ring :
    (P : Type 0) (C m first from : ℕ) (cell : ℕ → Cell) (ys earlier own : List Cell) (j p : ℕ) (v : Cell) →
    length earlier ≡ m * C →
    Written P C m first from cell ys (earlier ++ own) j →
    from ≤ j →
    j < from + C →
    p ≡ (first + j) % C →
    p < length own →
    (P → v ≡ cell j) →
    Written P C m first from cell ys (earlier ++ set own p v) (j + 1)
written_ring P C m first from cell ys earlier own j p v len w a b at l e =
    let n = length-append earlier own in
    let whole = set-append_right earlier own (m * C) (place C m (first + j)) v len (omega arith) in
    let here : place C m (first + j) - m * C ≡ p = omega arith in
    subst (λ zs. Written P C m first from cell ys zs (j + 1)) (whole ∙ ap (λ i. earlier ++ set own i v) here)
    (written_more P C m first from cell ys (earlier ++ own) j v w a b (omega arith) e)

module _ {V : Type 0} (o : Ops V) (read : ℕ → ℕ → V) (rows : List SampleRow) (first count : ℕ) (some : 0 < length rows) where
  -- in the midst of a row a node's cell is what it was at the row's start
  pub cell_same_now : (m from : ℕ) (n : Node) (ys xs : List Cell) (j : ℕ) (cell : ℕ → Cell) (k : ℕ) → Fits m n → k < count → Written (Climbs (window rows first count)) (length rows) m first from cell ys xs j → node_cell o read rows first count xs n k ≡ node_cell o read rows first count ys n k
  cell_same_now m from n ys xs j cell k f l w =
      ap (kept_ends o) (node_same o (window rows first count) read (ends_in o xs (length rows) first) (ends_in o ys (length rows) first) m k l
      (λ a i p q. ap (λ (c : Cell). record { low = o.restored c.low; high = o.restored c.high }) (w.rest (place (length rows) a (first + i)) (λ k' _ _. place_earlier (length rows) a m (first + i) (first + k') some p)))
      n f)

  -- a node's ends rest on the cells of the nodes before it
  pub ends_before :
      (m : ℕ) (n : Node) (earlier own ys : List Cell) (k : ℕ) →
      Fits m n →
      k < count →
      ys ≡ earlier ++ own →
      length earlier ≡ m * length rows →
      node_ends o (window rows first count) read (ends_in o earlier (length rows) first) n k ≡ node_ends o (window rows first count) read (ends_in o ys (length rows) first) n k
  ends_before m n earlier own ys k f l e len =
      node_same o (window rows first count) read (ends_in o earlier (length rows) first) (ends_in o ys (length rows) first) m k l
      (λ a i p q.
      let below : place (length rows) a (first + i) < length earlier = let b = place_below (length rows) a m (first + i) some p in omega arith in
      ap (λ (c : Cell). record { low = o.restored c.low; high = o.restored c.high })
      (sym (get_or_append_left earlier own no_cell (place (length rows) a (first + i)) below) ∙ ap (λ zs. get_or zs (place (length rows) a (first + i)) no_cell) (sym e)))
      n f

  -- the node may be given in other words
  pub written_of : (m from : ℕ) {n n' : Node} (ys zs : List Cell) → n ≡ n' → Written (Climbs (window rows first count)) (length rows) m first from (node_cell o read rows first count ys n) ys zs count → Written (Climbs (window rows first count)) (length rows) m first from (node_cell o read rows first count ys n') ys zs count
  written_of m from ys zs e w = subst (λ n. Written (Climbs (window rows first count)) (length rows) m first from (node_cell o read rows first count ys n) ys zs count) e w

  module _ (laws : Laws o) (ns : List Node) (sound : Sound ns) where
    pub held_none : (ys : List Cell) → Held o read rows first count ns ys ys 0
    held_none ys = record { cells = λ _ a k p q. absurd (omega arith); rest = λ i n. refl }

    restored_held : Climbs (window rows first count) → (ys xs : List Cell) (m a k : ℕ) → Held o read rows first count ns ys xs m → a < m → k < count → ends_in o xs (length rows) first a k ≡ ends o read (window rows first count) (formula_at ns a) k
    restored_held up ys xs m a k h p q =
        let e = h.cells up a k p q in
        ap (λ (c : Cell). record { low = o.restored c.low; high = o.restored c.high }) e
        ∙ ap₂ (λ x y. record { low = x; high = y }) (laws.restores _) (laws.restores _)

    -- a row written over cells that hold those of the nodes before
    node_done : Climbs (window rows first count) → (ys xs zs : List Cell) (m from k : ℕ) → m < length ns → Held o read rows first count ns ys xs m → Written (Climbs (window rows first count)) (length rows) m first from (node_cell o read rows first count xs (get_or ns m True)) xs zs count → from ≤ k → k < count → cell_at zs (length rows) m (first + k) ≡ true_cell o read rows first count ns m k
    node_done up ys xs zs m from k l h w p q =
        w.done up k p q
        ∙ ap (kept_ends o)
        (node_same o (window rows first count) read (ends_in o xs (length rows) first) (λ b. ends o read (window rows first count) (formula_at ns b)) m k q
        (λ b i r t. restored_held up ys xs m b i h r t) (get_or ns m True) (sound m l)
        ∙ node_tree o read (window rows first count) ns m k sound l)

    pub held_more : (ys xs zs : List Cell) (m : ℕ) → m < length ns → Held o read rows first count ns ys xs m → Written (Climbs (window rows first count)) (length rows) m first 0 (node_cell o read rows first count xs (get_or ns m True)) xs zs count → Held o read rows first count ns ys zs (m + 1)
    held_more ys xs zs m l h w = record {
      cells = λ up a k p q.
          ⊎_elim
          (λ (s : a ≡ m). subst (λ b. cell_at zs (length rows) b (first + k) ≡ true_cell o read rows first count ns b k) (sym s) (node_done up ys xs zs m 0 k l h w (omega arith) q))
          (λ (n : a ≢ m).
          let before : a < m = omega arith in
          w.rest (place (length rows) a (first + k)) (λ k' _ _. place_earlier (length rows) a m (first + k) (first + k') some before) ∙ h.cells up a k before q)
          (cases_eq a m);
      rest = λ i n. w.rest i (λ k _ q. n m k (omega arith) q) ∙ h.rest i (λ a k p q. n a k (omega arith) q);
    }

    pub evaluated :
        (ys xs zs : List Cell) (from m : ℕ) →
        m + 1 ≡ length ns →
        Held o read rows first count ns ys xs m →
        Written (Climbs (window rows first count)) (length rows) m first from (node_cell o read rows first count xs (get_or ns m True)) xs zs count →
        Evaluated o read rows first count from ns ys zs
    evaluated ys xs zs from m l h w =
        let e : m ≡ length ns - 1 = omega arith in
        let h' = subst (Held o read rows first count ns ys xs) e h in
        let w' = subst (λ n. Written (Climbs (window rows first count)) (length rows) n first from (node_cell o read rows first count xs (get_or ns n True)) xs zs count) e w in
        record {
          before = λ up a k p q.
              w'.rest (place (length rows) a (first + k)) (λ k' _ _. place_earlier (length rows) a (length ns - 1) (first + k) (first + k') some p) ∙ h'.cells up a k p q;
          last = λ up k p q. node_done up ys xs zs (length ns - 1) from k (omega arith) h' w' p q;
          rest = λ i n l'. w'.rest i l' ∙ h'.rest i n;
        }

-- what is evaluated from a position on is evaluated from its place on
module _ {V : Type 0} (o : Ops V) (read : ℕ → ℕ → V) (rows : List SampleRow) (first start : ℕ) (here : start ≡ first % length rows) (count from : ℕ) (ns : List Node) (ys xs : List Cell) where
  same_place : (k : ℕ) → (start + k) % length rows ≡ (first + k) % length rows
  same_place k = ap (λ s. (s + k) % length rows) here ∙ mod-add-mod first (length rows) k

  same_window : window rows start count ≡ window rows first count
  same_window = λ i. record {
    size = count;
    stamp = λ k. (row_in rows (same_place k i)).stamp;
    code = λ k channel. slice_index (row_in rows (same_place k i)).codes channel;
  }

  same_cell : (m k : ℕ) → cell_at xs (length rows) m (start + k) ≡ true_cell o read rows start count ns m k → cell_at xs (length rows) m (first + k) ≡ true_cell o read rows first count ns m k
  same_cell m k e =
      ap (λ r. get_or xs (m * length rows + r) no_cell) (sym (same_place k))
      ∙ e
      ∙ ap (λ σ. kept_ends o (ends o read σ (formula_at ns m) k)) same_window

  pub evaluated_from : Evaluated o read rows start count from ns ys xs → Evaluated o read rows first count from ns ys xs
  evaluated_from e = record {
    before = λ up a k p q. same_cell a k (e.before (subst Climbs (sym same_window) up) a k p q);
    last = λ up k p q. same_cell (length ns - 1) k (e.last (subst Climbs (sym same_window) up) k p q);
    rest = λ i n l. e.rest i (λ a k p q z. n a k p q (z ∙ ap (λ r. a * length rows + r) (same_place k))) (λ k p q z. l k p q (z ∙ ap (λ r. (length ns - 1) * length rows + r) (same_place k)));
  }

pub evaluated_as :
    {V : Type 0} (o : Ops V) (read : ℕ → ℕ → V) {rows rows' : List SampleRow} (first start : ℕ) {count count' : ℕ} (from : ℕ) {ns ns' : List Node} (ys xs : List Cell) →
    rows' ≡ rows →
    start ≡ first % length rows →
    count' ≡ count →
    ns' ≡ ns →
    Evaluated o read rows' start count' from ns' ys xs →
    Evaluated o read rows first count from ns ys xs
evaluated_as o read {rows} {rows'} first start {count} {count'} from {ns} {ns'} ys xs r s n m e =
    evaluated_from o read rows first start s count from ns ys xs
    (subst (λ (x : List SampleRow × ℕ × List Node). Evaluated o read x.0 start x.1 from x.2 ys xs) (λ i. (r i, n i, m i)) e)
