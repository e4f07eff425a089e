use Rattle.std.proofs.Common.{◌≡◌, ℕ, ◌<◌, length, get_or, take, None, Err, refl, arith, rules, false-eqb}
use Rattle.refusal.specs.declared.Refusal.TheVariants as refusal
use Rattle.logic.specs.Formula.{wait, reach, span}
use Rattle.rule.specs.Limits.{largest_span}
use Rattle.rule.specs.Tables.{formula}
use Rattle.rule.specs.Made.{Stands, no_node, too_far}
use Rattle.rule.specs.Rows.{row_of, Read}
use Rattle.rule.specs.declared.node.Node.TheVariants.{True}
use Rattle.rule.proofs.Checks.{Reads, reads_sound, reads_rows}
use Rattle.rule.proofs.Exact.{refused, made}
use Rattle.rule.proofs.rule.Rule.from_rows.Goals as goal

pub returns-in_err-nodes : goal.returns-in_err-nodes
returns-in_err-nodes c =
    let i = c.loop-i.i in
    let rows = c.args.rows.now in
    let why : c.from_residual.result ≡ Err (record { refusal = refusal.Node; place = i }) = search rules in
    let none : c.from_row.result ≡ None = c.in_err-nodes.ensures.ok_part in
    let unread : Read i (get_or rows i (row_of True)) None = rw none at c.from_row.ensures in
    let stands : (k : ℕ) → k < i → Stands rows k = λ k h. (get_or c.loop-i.nodes k True, (c.loop-i.invariant.reads k h).0, (c.loop-i.invariant.reads k h).1) in
    let first = no_node i refl (omega arith) c.loop-i-test.true stands (λ s. unread s.0 s.1 s.2) in
    rw why (record { made = first; exactly = refused _ _ first })

pub returns-then-horizon-gt-LARGEST_SPAN : goal.returns-then-horizon-gt-LARGEST_SPAN
returns-then-horizon-gt-LARGEST_SPAN c =
    let rows = c.args.rows.now in
    let nodes = take (length rows) c.loop-i.nodes in
    let some = false-eqb _ _ c.if-is_empty.ensures in
    let all : (k : ℕ) → k < length rows → Reads rows c.loop-i.nodes k = λ k h. c.loop-i.invariant.reads k (omega arith) in
    let waits : c.of_last-horizon.result.wait ≡ wait (formula nodes) = c.of_last-horizon.ensures.waits in
    let reaches : c.of_last-horizon.result.reach ≡ reach (formula nodes) = c.of_last-horizon.ensures.reaches in
    let far : largest_span < span (formula nodes) = omega arith in
    let why = too_far nodes refl (omega arith) (omega arith) (reads_rows rows _ (omega arith) all) (reads_sound rows _ (omega arith) all) far in
    rw c.at-then-horizon-gt-LARGEST_SPAN.ensures (record { made = why; exactly = refused _ _ why })

pub invariant_of-result-clause-sound : goal.invariant_of-result-clause-sound
invariant_of-result-clause-sound c = reads_sound c.args.rows.now _ (omega arith) (λ k h. c.loop-i.invariant.reads k (omega arith))

pub returns : goal.returns
returns c =
    let rows = reads_rows c.args.rows.now c.loop-i.nodes (omega arith) (λ k h. c.loop-i.invariant.reads k (omega arith)) in
    record { made = rows; exactly = made _ _ rows }
