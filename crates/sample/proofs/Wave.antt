-- What is left of a wave begins with the sample of its place. Assumes nothing.
use Rattle.std.proofs.Common.{◌≡◌, ℕ, suc, ◌+◌, ◌-◌, ◌<◌, ◌∷◌, add-one, arith}
use Rattle.sample.specs.Waves.{wave_at, wave_from}
use Rattle.sample.specs.declared.pattern.Pattern.{Pattern}

pub wave_more : (p : Pattern) (k n : ℕ) → k < n → wave_from p k (n - k) ≡ wave_at p k ∷ wave_from p (k + 1) (n - (k + 1))
wave_more p k n h = let e : n - k ≡ suc (n - (k + 1)) = omega arith in rw (e, add-one)
