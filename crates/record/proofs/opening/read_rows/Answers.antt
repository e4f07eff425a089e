use Rattle.std.proofs.Common.{◌∙◌, arith, length-set}
use Rattle.record.proofs.Sections.{read_more, rows_read}
use Rattle.record.proofs.opening.read_rows.Goals as goal

pub loop-i-preserved : goal.loop-i-preserved
loop-i-preserved c = record {
  long = length-set _ _ _ ∙ c.loop-i.invariant.long;
  read = read_more c.loop-i.rows c.args.nodes.now c.loop-i.i c.read_node.result (let long = c.loop-i.invariant.long in omega arith) c.loop-i.invariant.read c.read_node.ensures;
}

pub returns-clause-rows : goal.returns-clause-rows
returns-clause-rows c = rows_read c.loop-i.rows c.args.nodes.now (let long = c.loop-i.invariant.long in omega arith) (λ i e k. c.loop-i.invariant.read i e (omega arith))
