-- Which positions are held once the oldest are let go. Assumes nothing.
use Rattle.std.proofs.Common.{◌≡◌, ℕ, ◌-◌, ◌<◌, ◌≤◌, false, leb, List, length, arith}
use Rattle.std.proofs.lemmas.Bool.Decides.{nat_tests}
use Rattle.logic.proofs.Windows.{rising}
use Rattle.logic.specs.Formula.{Formula, span}
use Rattle.logic.specs.Trace.{trace, newest, Rising}
use Rattle.sample.specs.declared.row.SampleRow.{SampleRow}
use Rattle.evaluation.specs.Memory.{row_at}
use Rattle.world.specs.Steps.{many, held_of, stamp_at}
use Rattle.watch.specs.Cells.{FirstLater}
use Rattle.watch.proofs.Suffix.{many_from}

-- r is the first position from low on that is untaken or has a stamp, in its row, that is less than the span before the newest;
-- no position below low is held
pub let_go : (A : Formula) (σ : List SampleRow) (rows : List SampleRow) (taken low r : ℕ) → Rising (trace σ) → ((q : ℕ) → low ≤ q → q < length σ → (row_at rows q).stamp ≡ stamp_at σ q) → ((q : ℕ) → q < low → held_of A σ taken q ≡ false) → taken ≤ length σ → FirstLater rows low taken (newest (trace σ)) (span A) r → ((q : ℕ) → q < length σ → held_of A σ taken q ≡ leb r q) × (many (held_of A σ taken) (length σ) ≡ length σ - r)
unfolding held_of
let_go A σ rows taken low r up same gone some first = (at, many_from (held_of A σ taken) r (length σ) at)
  where
    at : (q : ℕ) → q < length σ → held_of A σ taken q ≡ leb r q
    at q l = grind (arith, nat_tests, same q, gone q, first.past q, first.next, first.from, first.to, rising (trace σ) up r q, same r)
