use Rattle.std.proofs.Common.{◌≡◌, ◌∷◌, length, take, sym, inl, inr, ⊎_elim, ap, ◌∙◌, arith, length-take}
use Rattle.std.proofs.lemmas.Result.{err_from_is_err_and}
use Rattle.record.specs.Format.{nodes_then}
use Rattle.record.specs.Opening.{wrong_count, nodes_cut, no_rule}
use Rattle.record.proofs.Sections.{section}
use Rattle.record.proofs.opening.read_rule.Goals as goal

pub returns-then-count-eq0 : goal.returns-then-count-eq0
returns-then-count-eq0 c =
    wrong_count c.from-count.result c.in-Some.rest.now c.at-then-count-eq0.ensures (c.in-Some.ensures.cases.0 ∙ ap (λ n. n ∷ c.in-Some.rest.now) (sym c.from-count.ensures)) (⊎_elim inl (λ h. inr h.1) c.then-count-eq0.either)

pub returns-in_default-split_at_checked : goal.returns-in_default-split_at_checked
returns-in_default-split_at_checked c =
    nodes_cut c.in-Some.count.now c.in-Some.rest.now c.at-in_default-split_at_checked.ensures c.in-Some.ensures.cases.0 (omega arith) (omega arith) (let h = c.in_default-split_at_checked.ensures.cases in omega arith)

pub returns-in_err-rule : goal.returns-in_err-rule
returns-in_err-rule c =
    let p = err_from_is_err_and c.from_residual.result c.from_residual.ensures.1 in
    let why = c.in_err-rule.ensures in
    let held = c.read_rows-rows.ensures.held in
    let rows : length (take c.from-count.result c.read_rows-rows.result) ≡ c.from-count.result = simp length-take (omega arith) in
    let whole = section c.args.bytes.now c.in-Some.rest.now c.in-Some-split_at_checked.nodes.now c.in-Some-split_at_checked.rest.now c.from-count.result c.as_chunks.result.0.now c.read_rows-rows.result (c.in-Some.ensures.cases.0 ∙ ap (λ n. n ∷ c.in-Some.rest.now) (sym c.from-count.ensures)) c.in-Some-split_at_checked.ensures.cases c.as_chunks.ensures.front c.as_chunks.ensures.front_len (omega arith) c.read_rows-rows.ensures.rows in
    rw (p.1, p.2) (no_rule _ why.0 c.in-Some-split_at_checked.rest.now why.2 whole (omega arith) (omega arith) why.1)

pub returns : goal.returns
returns c =
    let held = c.read_rows-rows.ensures.held in
    section c.args.bytes.now c.in-Some.rest.now c.in-Some-split_at_checked.nodes.now c.in-Some-split_at_checked.rest.now c.from-count.result c.as_chunks.result.0.now c.read_rows-rows.result (c.in-Some.ensures.cases.0 ∙ ap (λ n. n ∷ c.in-Some.rest.now) (sym c.from-count.ensures)) c.in-Some-split_at_checked.ensures.cases c.as_chunks.ensures.front c.as_chunks.ensures.front_len (omega arith) c.read_rows-rows.ensures.rows
    ∙ ap (λ rows. nodes_then rows c.in-Some-split_at_checked.rest.now) (sym c.in_ok-rule.ensures)
