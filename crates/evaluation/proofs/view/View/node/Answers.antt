use Rattle.std.proofs.Common.{length, ap, ◌∙◌}
use Rattle.evaluation.specs.Connectives.{until_ends, since_ends}
use Rattle.evaluation.specs.Memory.{ends_in}
use Rattle.evaluation.specs.Views.{trace_in, ends_at}
use Rattle.evaluation.proofs.Same.{at_node, ring_is, over_ring}
use Rattle.evaluation.proofs.view.View.node.Goals as goal

pub returns-in-Until : goal.returns-in-Until
returns-in-Until g c = λ up.
    let o = g.S.Scale.ops in
    let v = c.args.self.now in
    at_node o (trace_in v) g.S.TestScale.reading (ends_in o c.args.earlier.now (length v.rows.now) v.start) c.args.j c.in-Until.is
    (over_ring (λ σ A. until_ends o σ c.in-Until.low c.in-Until.high A (ends_in o c.args.earlier.now (length v.rows.now) v.start c.in-Until.second) c.args.j) v c.ring-left.ensures.view (ring_is o v c.args.earlier.now c.ring-left.result _ c.ring-left.ensures.cells)
    (λ up. c.until.ensures up ∙ ap (λ B. until_ends o (trace_in c.ring-left.result.view) c.in-Until.low c.in-Until.high (ends_at o c.ring-left.result) B c.args.j) (ring_is o v c.args.earlier.now c.ring-right.result _ c.ring-right.ensures.cells)) up)

pub returns-in-Since : goal.returns-in-Since
returns-in-Since g c = λ up.
    let o = g.S.Scale.ops in
    let v = c.args.self.now in
    at_node o (trace_in v) g.S.TestScale.reading (ends_in o c.args.earlier.now (length v.rows.now) v.start) c.args.j c.in-Since.is
    (over_ring (λ σ A. since_ends o σ c.in-Since.low c.in-Since.high A (ends_in o c.args.earlier.now (length v.rows.now) v.start c.in-Since.second) c.args.j) v c.ring-left-in-Since.ensures.view (ring_is o v c.args.earlier.now c.ring-left-in-Since.result _ c.ring-left-in-Since.ensures.cells)
    (λ up. c.since.ensures up ∙ ap (λ B. since_ends o (trace_in c.ring-left-in-Since.result.view) c.in-Since.low c.in-Since.high (ends_at o c.ring-left-in-Since.result) B c.args.j) (ring_is o v c.args.earlier.now c.ring-right-in-Since.result _ c.ring-right-in-Since.ensures.cells)) up)
