-- The first two tests of most calls. Assumes nothing.
use Rattle.std.specs.Prelude.{ℕ, cond, is_some, Ok, Err, Result}
use Rattle.refusal.specs.declared.Refusal.{Refusal}
use Rattle.refusal.specs.declared.Refusal.TheVariants as refusal
use Rattle.sample.specs.declared.row.SampleRow.{SampleRow}
use Rattle.strip.specs.Ring.{Ring}
use Rattle.watch.specs.Memory.{watch_fits}
use Rattle.watch.specs.declared.watch.Watch.{Watch}

abbrev pub readiness : {V : Type 0} → Watch V → Ring SampleRow → ℕ → Result (Unit {0}) Refusal
readiness x strip cells = cond (is_some x.arming) (cond (watch_fits x strip cells) (Ok tt) (Err refusal.Memory)) (Err refusal.Idle)
