use Rattle.std.proofs.Common.{arith}
use Rattle.record.proofs.Bytes.{bytes_of}
use Rattle.record.specs.Coming.{Comes}
use Rattle.record.specs.Reading.{coming_from}
use Rattle.record.proofs.Samples.{comes}
use Rattle.record.proofs.SoleComing.{sole}
use Rattle.record.proofs.source.RecordSource.new.Goals as goal

pub returns : goal.returns
returns c =
    let there : Comes c.args.bytes.now c.args.start (coming_from c.args.bytes.now c.min-at.result) = rw c.min-at.ensures (comes c.args.bytes.now (bytes_of c.args.bytes.now (λ i. let h = c.type_inv.bytes i in omega arith)) c.args.start) in
    record { comes = there; only = λ coming other. sole c.args.bytes.now c.args.start _ coming there other }
