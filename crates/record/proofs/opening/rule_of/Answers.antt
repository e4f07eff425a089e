use Rattle.std.proofs.Common.{rules}
use Rattle.record.proofs.Sections.{made_rule}
use Rattle.record.proofs.opening.rule_of.Goals as goal

pub returns : goal.returns
returns c = made_rule c.args.rows.now c.from_rows.result c.map_err.result c.from_rows.ensures.made c.map_err.ensures.cases (λ why m k. search rules)
