-- A push by its two tests. Assumes nothing.
use Rattle.std.proofs.Common.{◌≡◌, ℕ, ◌<◌, ◌≤◌, true, false, cond, ltb, length, Some, None, Ok, Err, arith}
use Rattle.std.proofs.lemmas.Grind.{common_steps}
use Rattle.std.proofs.lemmas.Bool.Decides.{nat_tests}
use Rattle.refusal.specs.declared.Refusal.{Refusal}
use Rattle.refusal.specs.declared.Refusal.TheVariants.{Backward, TrayFull}
use Rattle.strip.specs.Ring.{Ring, push_refusal, pushing, pushed, with_row}
use Rattle.watch.specs.Memory.{takes_later}

module _ {R : Type 0} (s : Ring R) (stamp : ℕ) where
  -- first there must be a free place, then the stamp must be later
  pub push_tests : s.kept ≤ length s.rows → push_refusal s stamp ≡ cond (ltb s.kept (length s.rows)) (cond (takes_later s stamp) None (Some Backward)) (Some TrayFull)
  push_tests fits = grind (arith, nat_tests)

  pub pushing_ok : (u : Unit {0}) → pushing s stamp ≡ Ok u → push_refusal s stamp ≡ None
  pushing_ok u e = grind (arith, common_steps)

  pub pushing_err : (why : Refusal) → pushing s stamp ≡ Err why → push_refusal s stamp ≡ Some why
  pushing_err why e = grind (arith, common_steps)

  pub pushed_row : (row : R) → push_refusal s stamp ≡ None → pushed s stamp row ≡ with_row s stamp row
  pushed_row row e = grind (arith, common_steps)

  pub pushed_stays : (row : R) (why : Refusal) → push_refusal s stamp ≡ Some why → pushed s stamp row ≡ s
  pushed_stays row why e = grind (arith, common_steps)

  -- with a free place, only the stamp can refuse
  pub taken_later : s.kept < length s.rows → push_refusal s stamp ≡ None → takes_later s stamp ≡ true
  taken_later free e = grind (arith, nat_tests)

  pub refused_late : s.kept < length s.rows → (why : Refusal) → push_refusal s stamp ≡ Some why → (why ≡ Backward) × (takes_later s stamp ≡ false)
  refused_late free why e = grind (arith, nat_tests)
