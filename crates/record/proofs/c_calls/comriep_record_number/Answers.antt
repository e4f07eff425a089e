use Rattle.std.proofs.Common.{rules}
use Rattle.refusal.specs.Table.{number_of}
use Rattle.record.proofs.Exact.{told, told_opens}
use Rattle.record.proofs.c_calls.comriep_record_number.Goals as goal

pub returns : goal.returns
returns c =
    let number = told (λ m. number_of m.refusal) c.args.bytes.now c.refused.result c.map_or.result c.refused.ensures c.map_or.ensures (λ m k. search rules) in
    record { told = number; opens = told_opens _ _ _ number; only = search rules }
