use Rattle.std.proofs.Common.{arith}
use Rattle.record.proofs.Bytes.{bytes_of}
use Rattle.record.proofs.Sections.{counted}
use Rattle.record.proofs.format.split_count.Goals as goal

pub returns : goal.returns
returns c =
    counted c.args.bytes.now c.in_ok-count.count.now c.in_ok-count.rest.now c.from_le_bytes.result (bytes_of c.args.bytes.now (λ i. let h = c.type_inv.bytes i in omega arith)) c.in_ok-count.ensures.cases (omega arith)
