use Rattle.std.proofs.Common.{ℕ, ◌+◌, ◌<◌, ◌≤◌, List, Some, None, Option, rules, arith}
use Rattle.std.proofs.lemmas.Iterator.{first_from_Range}
use Rattle.std.specs.Option.{MatchOption, unwrap_or}
use borrow.Author.Tests.{tests}
use Rattle.sample.specs.declared.row.SampleRow.{SampleRow}
use Rattle.evaluation.specs.Memory.{row_at}
use Rattle.watch.specs.Cells.{FirstLater}
use Rattle.watch.proofs.places.rows.Places+SampleRow.first_later.Goals as goal

-- what a search found, or that it found nothing
first_or_end : (rows : List SampleRow) (low high moment by : ℕ) (found : Option ℕ) → low ≤ high → MatchOption found ((k : ℕ) → low ≤ k → k < high → (row_at rows k).stamp + by ≤ moment) (λ i. (low ≤ i) × (i < high) × (moment < (row_at rows i).stamp + by) × ((k : ℕ) → low ≤ k → k < i → (row_at rows k).stamp + by ≤ moment)) → FirstLater rows low high moment by (unwrap_or found high)
first_or_end rows low high moment by None order none = record { from = order; to = omega arith; past = none; next = λ l. absurd (omega arith) }
first_or_end rows low high moment by (Some i) order is = record { from = is.0; to = omega arith; past = is.3; next = λ _. is.2 }

pub returns : goal.returns
returns c =
    let late = λ (k : ℕ). c.args.moment < (row_at c.args.self.now.lent.now k).stamp + c.args.by in
    let early = λ (k : ℕ). (row_at c.args.self.now.lent.now k).stamp + c.args.by ≤ c.args.moment in
    rw c.unwrap_or.ensures (first_or_end c.args.self.now.lent.now c.args.low c.args.high c.args.moment c.args.by c.find.result c.requires.order
    (first_from_Range (record { start = c.args.low; end = c.args.high }) _ _ c.find.result late early c.find.ensures.ran (λ x q k. search (rules, tests)) (λ x q k. search (rules, tests))))
