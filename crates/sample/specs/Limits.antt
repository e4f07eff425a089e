-- The limits of stamps and of patterns. Assumes nothing.
use Rattle.std.specs.Prelude.{ℕ, ◌^◌}

abbrev pub stamp_limit : ℕ
stamp_limit = 2 ^ 40

abbrev pub most_samples : ℕ
most_samples = 1000000

abbrev pub longest_half : ℕ
longest_half = 1000
