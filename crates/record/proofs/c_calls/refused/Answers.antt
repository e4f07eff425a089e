use Rattle.record.proofs.Exact.{refusal_is}
use Rattle.record.proofs.c_calls.refused.Goals as goal

pub returns : goal.returns
returns c = rw c.err.ensures.value (refusal_is c.args.bytes.now c.new.result c.open.new.rule c.open.result c.open.ensures.answer)
