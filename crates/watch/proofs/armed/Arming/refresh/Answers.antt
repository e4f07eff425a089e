use Rattle.std.proofs.Common.{◌+◌, ◌-◌, length, ◌∙◌, ap₂, mul_comm, arith}
use Rattle.rule.specs.Made.{nodes_of}
use Rattle.evaluation.specs.Nodes.{Asked}
use Rattle.watch.proofs.LastCells.{ok_part, settled_in_ring}
use Rattle.watch.proofs.armed.Arming.refresh.Goals as goal

pub returns : goal.returns
returns g c =
    let rows = c.args.rows.now in
    let places = c.args.self.now.places in
    let nodes = length (nodes_of c.args.self.now.rule) in
    let accepted = c.args.before.accepted in
    let first = c.first_later-first.result in
    let from = c.first_later-from.result in
    let f = c.first_later-first.ensures in
    let h = c.first_later-from.ensures in
    let asked : Asked (length rows) (length c.args.cells.now) first (accepted + 1 - first) (from - first) nodes =
    let m = mul_comm nodes places in
    let p = c.requires.places in
    let some = c.args.self.now.some in
    let begun = c.args.before.begun in
    let near = c.args.before.near in
    record { some = omega arith; held = omega arith; begun = omega arith; fits = rw c.requires.places (omega arith); near = omega arith } in
    record {
      first = first;
      from = from;
      window = rw (← c.over-samples.ensures, ← c.span.ensures) c.first_later-first.ensures;
      waiting = rw (← c.over-samples.ensures, ← c.wait.ensures) c.first_later-from.ensures;
      evaluated = ok_part _ _ _ c.evaluate.result c.evaluate.ensures (λ why n. n.1) asked;
      count_is =
          let among = settled_in_ring g.S.Scale.ops c.args.self.now.rule in
          rw c.requires.places (
          c.saturating_sub.ensures
          ∙ ap₂ (λ x y. x - y)
          (c.count_settled-settled.ensures ∙ among c.evaluate.new.cells c.last_cells-2.result.lent.now places _ _ (accepted + 1) (c.evaluate.auto.cells ∙ c.requires.sized) c.last_cells-2.ensures c.max-open.ensures)
          (c.count_settled-already.ensures ∙ among c.args.cells.now c.last_cells.result.lent.now places _ _ accepted c.requires.sized c.last_cells.ensures c.max-open.ensures));
    }
