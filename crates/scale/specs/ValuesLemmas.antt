-- Two margins of one value are the same. Assumes nothing.
use Rattle.std.specs.Prelude.{◌≡◌, ◌%◌, ◌≤◌, unsigned_abs}
use mathlib.Core.HLevel.{is_prop→PathP}
use Rattle.std.proofs.Math.Bridge.{le_prop}
use Rattle.std.proofs.Math.Nat.{ℕ_set}
use Rattle.scale.specs.Limits.{best_margin}
use Rattle.scale.specs.declared.margin.Margin.{Margin}

pub same_value : (a b : Margin) → a.value ≡ b.value → a ≡ b
same_value a b e j = record {
  value = e j;
  odd = is_prop→PathP (λ k. unsigned_abs (e k) % 2 ≡ 1) (λ k. ℕ_set _ _) a.odd b.odd j;
  near = is_prop→PathP (λ k. unsigned_abs (e k) ≤ best_margin) (λ k. le_prop) a.near b.near j;
}
