use Rattle.std.proofs.Common.{◌≡◌, ◌*◌, ◌<◌, length, ap, ◌∙◌, add-mul, arith}
use Rattle.evaluation.specs.Memory.{Climbs, kept_ends}
use Rattle.evaluation.specs.Nodes.{node_cell}
use Rattle.evaluation.specs.Views.{trace_in}
use Rattle.evaluation.proofs.Rowing.{written_ring, written_all, ends_before}
use Rattle.evaluation.proofs.view.View.write_row.Goals as goal

pub loop-j-preserved : goal.loop-j-preserved
loop-j-preserved g c =
    let o = g.S.Scale.ops in
    let v = c.args.self.now in
    let m = c.args.m in
    let split = c.split_at_mut-earlier in
    let len : length split.result.0.now ≡ m * length v.rows.now = split.ensures.front_len ∙ ap (λ n. m * n) c.size.ensures in
    let more = add-mul m 1 (length v.rows.now) in
    let inside : c.place.result < length c.loop-j.own = omega (arith, split.ensures.back_len, c.place.ensures.within, c.requires.room, split.ensures.front_len) in
    written_ring (Climbs (trace_in v)) (length v.rows.now) m v.start c.args.from (node_cell o g.S.TestScale.reading v.rows.now v.start v.count c.args.cells.now c.args.node) c.args.cells.now
    split.result.0.now c.loop-j.own c.loop-j.j c.place.result c.from.result len c.loop-j.invariant (omega arith) (omega (arith, v.held)) c.place.ensures.is inside
    (λ up. c.from.ensures ∙ ap (kept_ends o) (c.node-ends.ensures up ∙ ends_before o g.S.TestScale.reading v.rows.now v.start v.count (omega (arith, v.begun)) m c.args.node split.result.0.now split.result.1.now c.args.cells.now c.loop-j.j c.requires.fits c.loop-j-test.true split.ensures.value len))

pub returns : goal.returns
returns g c = written_all _ _ _ _ _ _ _ _ c.loop-j.j c.args.self.now.count (omega arith) c.loop-j.invariant
