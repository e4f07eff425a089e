use Rattle.std.proofs.Common.{◌≡◌, ◌-◌, ap, ◌∙◌, length, get_or, take, arith, length-set}
use Rattle.std.proofs.lemmas.Grind.{common_steps}
use Rattle.std.proofs.lemmas.List.{get_or_read}
use Rattle.rule.specs.Horizons.{none, node_horizon, last_horizon}
use Rattle.rule.specs.declared.horizon.Horizon.{Horizon}
use Rattle.rule.specs.declared.node.Node.TheVariants.{True}
use Rattle.rule.proofs.Fused.{last_horizon_lem}
use Rattle.rule.proofs.Reaches.{table_more, bound_more}
use Rattle.rule.proofs.horizon.Horizon.of_last.Goals as goal

pub loop-i-preserved : goal.loop-i-preserved
loop-i-preserved c =
    let inv = c.loop-i.invariant in
    let h = c.loop-i-test.true in
    let read = get_or_read c.args.nodes.now c.loop-i.i c.index-nodes-i.result h c.index-nodes-i.is True in
    let e = c.of_node.ensures ∙ ap (node_horizon (take c.loop-i.i c.loop-i.table)) read in
    record {
      long = length-set _ _ _ ∙ inv.long;
      tabled_so_far = table_more _ _ _ _ c.requires.sound h (omega arith) e inv.tabled_so_far;
      near = bound_more _ _ _ _ c.requires.sound h (omega arith) e inv.near;
    }

pub returns : goal.returns
returns c =
    let nodes = c.args.nodes.now in
    let far : get_or c.loop-i.table (length nodes - 1) none ≡ last_horizon nodes = grind (arith, common_steps) in
    let all = far ∙ last_horizon_lem nodes in
    record { waits = ap (λ (x : Horizon). x.wait) all; reaches = ap (λ (x : Horizon). x.reach) all; bound = grind (arith, common_steps) }
