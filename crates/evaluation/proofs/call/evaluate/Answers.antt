use Rattle.std.proofs.Common.{length, ap, subst}
use Rattle.evaluation.specs.Nodes.{Asked}
use Rattle.evaluation.proofs.Rowing.{evaluated_as}
use Rattle.evaluation.proofs.call.evaluate.Goals as goal

pub returns : goal.returns
returns g c = (
  subst (Asked (length c.args.rows.now) (length c.args.cells.now) c.args.first c.args.count c.args.from) (ap length c.nodes-nodes.ensures) (c.has_room.ensures.0 c.if-not-has_room.false),
  evaluated_as g.S.Scale.ops g.S.TestScale.reading c.args.first c.new.result.start c.args.from c.args.cells.now c.evaluate.new.cells c.new.ensures.rows c.new.ensures.start c.new.ensures.count c.nodes-nodes.ensures c.evaluate.ensures,
)
