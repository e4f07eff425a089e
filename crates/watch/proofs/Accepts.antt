-- From what the steps of accepting a sample do to what it promises. Assumes nothing.
use Rattle.std.proofs.Common.{true, ◌≡◌, ℕ, ◌-◌, ◌<◌, ◌≤◌, min, false, length, Some, None, sym, ap, ◌∙◌, arith}
use Rattle.refusal.specs.declared.Refusal.{Refusal}
use Rattle.refusal.specs.declared.Refusal.TheVariants.{Backward}
use Rattle.sample.specs.Limits.{stamp_limit}
use Rattle.sample.specs.declared.row.SampleRow.{SampleRow}
use Rattle.strip.specs.Ring.{Ring, push_refusal, pushed, with_row}
use Rattle.watch.specs.Memory.{takes_later}
use Rattle.watch.specs.declared.armed.Arming.{Arming}
use Rattle.watch.specs.declared.watch.Watch.{Watch}
use Rattle.watch.proofs.Pushing.{pushed_row, taken_later, refused_late}
use Rattle.watch.proofs.Readiness.{Fitting}

-- a sample's stamp is its own nearest stamp
pub own_stamp : (row : SampleRow) → row.stamp < stamp_limit → min row.stamp (stamp_limit - 1) ≡ row.stamp
own_stamp row early = omega arith

module _ {V : Type 0} (x : Watch V) (strip : Ring SampleRow) (cells : ℕ) (arming : Arming) (fits : Fitting x strip cells arming) (room : x.held ≡ arming.places → ⊥) (within : strip.kept ≤ length strip.rows) where
  -- the strip has a free place
  pub free_place : strip.kept < length strip.rows
  free_place = let p = fits.places_are in let k = fits.kept_is in omega (arith, room)

-- the strip with the sample in it
module _ (strip strip' : Ring SampleRow) (row : SampleRow) (early : row.stamp < stamp_limit) (none : push_refusal strip (min row.stamp (stamp_limit - 1)) ≡ None) where
  pub with_sample : strip' ≡ pushed strip (min row.stamp (stamp_limit - 1)) row → strip' ≡ with_row strip row.stamp row
  with_sample moved = moved ∙ pushed_row strip _ row none ∙ ap (λ t. with_row strip t row) (own_stamp row early)

  pub comes_later : strip.kept < length strip.rows → takes_later strip row.stamp ≡ true
  comes_later free = ap (takes_later strip) (sym (own_stamp row early)) ∙ taken_later strip _ free none

-- a sample that the strip refuses comes too late
pub too_late : (strip : Ring SampleRow) (row : SampleRow) (why : Refusal) → strip.kept < length strip.rows → row.stamp < stamp_limit → push_refusal strip (min row.stamp (stamp_limit - 1)) ≡ Some why → (why ≡ Backward) × (takes_later strip row.stamp ≡ false)
too_late strip row why free early e =
    let r = refused_late strip _ free why e in
    (r.0, ap (takes_later strip) (sym (own_stamp row early)) ∙ r.1)
