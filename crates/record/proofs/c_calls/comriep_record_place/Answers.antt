use Rattle.std.proofs.Common.{rules}
use Rattle.record.proofs.Exact.{told, told_opens}
use Rattle.record.proofs.c_calls.comriep_record_place.Goals as goal

pub returns : goal.returns
returns c =
    let place = told (λ m. m.place) c.args.bytes.now c.refused.result c.map_or.result c.refused.ensures c.map_or.ensures (λ m k. search rules) in
    record { told = place; opens = told_opens _ _ _ place }
