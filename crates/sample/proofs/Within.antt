-- Clamping leaves a row that is within its limits as it is. Assumes nothing.
use Rattle.std.proofs.Common.{◌≡◌, ℕ, suc, ◌-◌, ◌≤◌, min, List, [], ◌∷◌, map, get_or, refl, arith}
use Rattle.scale.specs.Limits.{largest_code}
use Rattle.sample.specs.Limits.{stamp_limit}
use Rattle.sample.specs.Rows.{Fits, nearest, clamped}
use Rattle.sample.specs.declared.row.SampleRow.{SampleRow}

pub codes_stay : (codes : List ℕ) → ((k : ℕ) → get_or codes k 0 ≤ largest_code) → map nearest codes ≡ codes
codes_stay [] within = refl
codes_stay (c ∷ cs) within =
    let here : nearest c ≡ c = omega (arith, within 0) in
    let later = codes_stay cs (λ k. within (suc k)) in
    cc

pub row_stays : (row : SampleRow) → Fits row → clamped row ≡ row
row_stays row fits =
    let stamp : min row.stamp (stamp_limit - 1) ≡ row.stamp = omega (arith, fits.early) in
    λ i. record { stamp = stamp i; codes = codes_stay row.codes fits.within i }
