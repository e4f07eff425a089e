-- Two samples of one row are the same. Assumes nothing.
use Rattle.std.proofs.Common.{◌≡◌, ◌<◌, ◌≤◌, length, get_or}
use mathlib.Core.HLevel.{is_prop→PathP}
use native.Mathlib.Bridge.{le_prop}
use native.Mathlib.Nat.{ℕ_set}
use Rattle.scale.specs.Limits.{largest_code}
use Rattle.sample.specs.Limits.{stamp_limit}
use Rattle.sample.specs.declared.sample.Sample.{Sample}

pub same_row : (a b : Sample) → a.row ≡ b.row → a ≡ b
same_row a b e j = record {
  row = e j;
  four = is_prop→PathP (λ i. length (e i).codes ≡ 4) (λ i. ℕ_set _ _) a.four b.four j;
  early = is_prop→PathP (λ i. (e i).stamp < stamp_limit) (λ i. le_prop) a.early b.early j;
  within = λ k. is_prop→PathP (λ i. get_or (e i).codes k 0 ≤ largest_code) (λ i. le_prop) (a.within k) (b.within k) j;
}
