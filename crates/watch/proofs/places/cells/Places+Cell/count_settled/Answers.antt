use Rattle.std.proofs.Common.{ℕ, ◌-◌, refl, ◌∙◌, rules}
use Rattle.std.proofs.lemmas.Iterator.{YieldsList-from_range}
use Rattle.std.proofs.lemmas.Iterator.Consumers.{YieldsList-from_filter, count_from_yields_List}
use borrow.Author.Tests.{tests}
use Rattle.watch.specs.Cells.{cell_in, same_ends}
use Rattle.watch.proofs.Counting.{many_left}
use Rattle.watch.proofs.places.cells.Places+Cell.count_settled.Goals as goal

pub returns : goal.returns
returns g c =
    let test = λ (p : ℕ). same_ends g.S.Scale.ops (cell_in c.args.self.now.lent.now p) in
    count_from_yields_List c.filter.result _ c.count.ensures.ran (YieldsList-from_filter _ test (YieldsList-from_range c.args.low c.args.high _ c.filter.ensures.source refl) c.filter.ensures.closure (λ x b q k. search (rules, tests)))
    ∙ many_left test c.args.low (c.args.high - c.args.low)
