use Rattle.std.proofs.Common.{◌+◌, ◌≤◌, length, take, ap, ◌∙◌, arith, rules, length-drop}
use Rattle.std.specs.List.{between}
use Rattle.std.proofs.lemmas.Slice.{between_to_end}
use Rattle.record.proofs.Samples.{seen}
use Rattle.record.proofs.source.sample_at.Goals as goal

pub returns : goal.returns
returns c =
    let bs = c.args.bytes.now in
    let at = c.args.at in
    let chunk = c.in-Some.ensures.cases in
    let left = between_to_end bs at (length bs) (omega arith) in
    let long : 16 ≤ length (between at (length bs) bs) = chunk.enough in
    let enough : at + 16 ≤ length bs = let l = ap length left ∙ length-drop at bs in omega arith in
    seen bs at c.read_sample-row.result enough (c.read_sample-row.ensures.spells ∙ chunk.same ∙ ap (take 16) left) c.read_sample-row.ensures.four c.new.result c.map_err.result c.new.ensures c.map_err.ensures.cases (λ why ending k. search rules)
