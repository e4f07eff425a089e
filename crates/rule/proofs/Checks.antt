-- A loop that reads one row after another. Assumes nothing.
use Rattle.std.proofs.Common.{◌≡◌, ℕ, ◌+◌, ◌<◌, ◌≤◌, ◌≢◌, List, map, length, get_or, take, set, ap, ◌∙◌, arith, length-take, get_or-set_other, get_or-set_same, below_more}
use lib.ListN.{get_or-map}
use Rattle.std.proofs.lemmas.List.{get_or-take, get_or_default, length-map, same_lists}
use Rattle.rule.specs.Rows.{Fits, row_of}
use Rattle.rule.specs.Tables.{Sound}
use Rattle.rule.specs.declared.node.Node.{Node}
use Rattle.rule.specs.declared.node.Node.TheVariants.{True}
use Rattle.rule.specs.declared.node.NodeRow.{NodeRow}

-- the node at k has the row at k, and fits there
abbrev pub Reads : List NodeRow → List Node → ℕ → Type 0
Reads rows ns k = (row_of (get_or ns k True) ≡ get_or rows k (row_of True)) × Fits k (get_or ns k True)

pub reads_more : (rows : List NodeRow) (ns : List Node) (i : ℕ) (n : Node) → i < length ns → ((k : ℕ) → k < i → Reads rows ns k) → (row_of n ≡ get_or rows i (row_of True)) × Fits i n → (k : ℕ) → k < i + 1 → Reads rows (set ns i n) k
reads_more rows ns i n w inv here =
    below_more _ _
    (λ k l. let ne : k ≢ i = omega arith in rw get_or-set_other (inv k l))
    (rw get_or-set_same here)

module _ (rows : List NodeRow) (ns : List Node) (w : length rows ≤ length ns) (inv : (k : ℕ) → k < length rows → Reads rows ns k) where
  pub reads_sound : Sound (take (length rows) ns)
  reads_sound k h =
      let l : k < length rows = omega (arith, simp length-take at h) in
      rw get_or-take (inv k l).1

  pub reads_rows : map row_of (take (length rows) ns) ≡ rows
  reads_rows =
      let nodes = take (length rows) ns in
      let long : length (map row_of nodes) ≡ length rows = length-map nodes row_of ∙ simp length-take (omega arith) in
      same_lists _ _ long (λ k d h.
      let l : k < length rows = omega arith in
      get_or_default (map row_of nodes) k d (row_of True) h
      ∙ get_or-map row_of nodes k True
      ∙ ap row_of (get_or-take (length rows) ns k True l)
      ∙ (inv k l).0
      ∙ get_or_default rows k (row_of True) d l)
