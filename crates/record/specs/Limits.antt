-- The limit of a record. Assumes nothing.
use Rattle.std.specs.Prelude.{ℕ}

abbrev pub most_samples : ℕ
most_samples = 1000000
