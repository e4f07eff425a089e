-- Where the last node's cells lie, and parts of answers. Assumes nothing.
use Rattle.std.proofs.Common.{◌≡◌, ℕ, ◌+◌, ◌-◌, ◌*◌, ◌%◌, ◌<◌, ◌≤◌, List, drop, length, get_or, Ok, Err, Result, ap, ◌∙◌, ap₂, mul_comm, add-mul, arith, length-drop, length-take-le, MatchResult}
use Rattle.std.proofs.lemmas.List.{get_or-drop}
use Rattle.scale.specs.Laws.{Ops}
use Rattle.rule.specs.Made.{nodes_of}
use Rattle.rule.specs.declared.rule.Rule.{Rule}
use Rattle.evaluation.specs.Memory.{no_cell, cell_at}
use Rattle.evaluation.specs.declared.memory.Cell.{Cell}
use Rattle.world.specs.Steps.{many}
use Rattle.watch.specs.Cells.{cell_in, same_ends}
use Rattle.watch.specs.Memory.{last_node}
use Rattle.watch.specs.Refreshed.{settled_among}

pub nodes_some : (rule : Rule) → 0 < length (nodes_of rule)
nodes_some rule = let e = length-take-le rule.count rule.nodes rule.held in let s = rule.some in omega arith

-- the rings of all nodes, the last one at the end
pub last_ring : (rule : Rule) (places : ℕ) → last_node rule * places + places ≡ places * length (nodes_of rule)
last_ring rule places =
    let n = length (nodes_of rule) in
    let some = nodes_some rule in
    let e = add-mul (n - 1) 1 places in
    let k : n - 1 + 1 ≡ n = omega arith in
    let f : (n - 1 + 1) * places ≡ n * places = ap (λ x. x * places) k in
    let m = mul_comm n places in
    omega arith

-- the last of the rings, and what lies in it
module _ (rule : Rule) (cells : List Cell) (places : ℕ) (sized : length cells ≡ places * length (nodes_of rule)) where
  pub ring_fits : places ≤ length cells
  ring_fits = let r = last_ring rule places in omega arith

  pub ring_long : length (drop (length cells - places) cells) ≡ places
  ring_long = let r = ring_fits in omega (arith, length-drop (length cells - places) cells)

  pub in_ring : (p : ℕ) → cell_in (drop (length cells - places) cells) p ≡ cell_at cells places (last_node rule) p
  in_ring p =
      let r = last_ring rule places in
      let begin : length cells - places ≡ last_node rule * places = omega arith in
      get_or-drop (length cells - places) cells (p % length (drop (length cells - places) cells)) no_cell
      ∙ ap₂ (λ b n. get_or cells (b + p % n) no_cell) begin ring_long

-- how many positions are settled, by the last ring
pub settled_in_ring : {V : Type 0} (ops : Ops V) (rule : Rule) (cells ring : List Cell) (places low from high : ℕ) → length cells ≡ places * length (nodes_of rule) → ring ≡ drop (length cells - places) cells → low ≡ from → many (λ k. same_ends ops (cell_in ring (low + k))) (high - low) ≡ settled_among ops rule places cells from (high - from)
settled_in_ring ops rule cells ring places low from high sized is at =
    ap₂ (λ r l. many (λ k. same_ends ops (cell_in r (l + k))) (high - l)) is at
    ∙ (λ i. many (λ k. same_ends ops (in_ring rule cells places sized (from + k) i)) (high - from))

-- what holds of an answer that a fact lets be no refusal
pub ok_part : {T E : Type 0} (A B : Type 0) (Refused : E → Type 0) (r : Result T E) → MatchResult r (λ _. A × B) Refused → ((why : E) → Refused why → A → ⊥) → A → B
ok_part A B Refused (Ok _) c never a = c.1
ok_part A B Refused (Err why) c never a = absurd (never why c a)
