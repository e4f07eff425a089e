use Rattle.std.proofs.Common.{arith, rules}
use Rattle.record.proofs.Bytes.{bytes_of, sample_written}
use Rattle.record.proofs.format.read_sample.Goals as goal

pub returns-clause-spells : goal.returns-clause-spells
returns-clause-spells c =
    sample_written c.args.bytes.now (bytes_of c.args.bytes.now (λ i. search rules)) (search rules) _ _ _ _ _ (omega arith) (omega arith) (omega arith) (omega arith) (omega arith)
