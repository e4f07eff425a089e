use Rattle.std.proofs.Common.{◌≡◌, length, sym, subst, arith}
use Rattle.rule.specs.Rows.{Fits}
use Rattle.evaluation.specs.Nodes.{Held}
use Rattle.evaluation.proofs.Rowing.{other_is, last_is, held_more, evaluated, written_of}
use Rattle.evaluation.proofs.view.View.evaluate.Goals as goal

pub write_row-requires-clause-fits : goal.write_row-requires-clause-fits
write_row-requires-clause-fits g c =
    let is = other_is c.args.nodes.now c.in-Some.others.now c.in-Some.last.now c.in-Some.ensures.cases.0 c.loop-m.m c.index-others-m.result c.loop-m-test.true c.index-others-m.is in
    subst (Fits c.loop-m.m) (sym is) (c.requires.sound c.loop-m.m (omega (arith, c.in-Some.ensures.cases.1)))

pub loop-m-preserved : goal.loop-m-preserved
loop-m-preserved g c =
    let v = c.args.self.now in
    let is = other_is c.args.nodes.now c.in-Some.others.now c.in-Some.last.now c.in-Some.ensures.cases.0 c.loop-m.m c.index-others-m.result c.loop-m-test.true c.index-others-m.is in
    held_more g.S.Scale.ops g.S.TestScale.reading v.rows.now v.start v.count (omega (arith, v.begun)) g.met.S.Scale.lawful c.args.nodes.now c.requires.sound
    c.args.cells.now c.loop-m.cells c.write_row.new.cells c.loop-m.m (omega (arith, c.in-Some.ensures.cases.1)) c.loop-m.invariant
    (written_of g.S.Scale.ops g.S.TestScale.reading v.rows.now v.start v.count (omega (arith, v.begun)) _ _ _ _ is c.write_row.ensures)

pub write_row-requires-in-Some-clause-fits : goal.write_row-requires-in-Some-clause-fits
write_row-requires-in-Some-clause-fits g c =
    let is = last_is c.args.nodes.now c.in-Some.others.now c.in-Some.last.now c.in-Some.ensures.cases.0 in
    subst (Fits (length c.in-Some.others.now)) (sym is) (c.requires.sound (length c.in-Some.others.now) (omega (arith, c.in-Some.ensures.cases.1)))

pub returns-after-loop-m : goal.returns-after-loop-m
returns-after-loop-m g c =
    let v = c.args.self.now in
    let is = last_is c.args.nodes.now c.in-Some.others.now c.in-Some.last.now c.in-Some.ensures.cases.0 in
    let all : c.loop-m.m ≡ length c.in-Some.others.now = omega arith in
    evaluated g.S.Scale.ops g.S.TestScale.reading v.rows.now v.start v.count (omega (arith, v.begun)) g.met.S.Scale.lawful c.args.nodes.now c.requires.sound
    c.args.cells.now c.loop-m.cells c.write_row-in-Some.new.cells c.args.from (length c.in-Some.others.now) c.in-Some.ensures.cases.1
    (subst (Held g.S.Scale.ops g.S.TestScale.reading v.rows.now v.start v.count c.args.nodes.now c.args.cells.now c.loop-m.cells) all c.loop-m.invariant)
    (written_of g.S.Scale.ops g.S.TestScale.reading v.rows.now v.start v.count (omega (arith, v.begun)) _ _ _ _ is c.write_row-in-Some.ensures)
