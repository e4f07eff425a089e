-- The limits of rules. Assumes nothing.
use Rattle.std.specs.Prelude.{ℕ}

abbrev pub largest_channel : ℕ
largest_channel = 3

-- of a bound, and of a rule's span
abbrev pub largest_bound : ℕ
largest_bound = 4095

abbrev pub largest_span : ℕ
largest_span = 4095

abbrev pub most_nodes : ℕ
most_nodes = 32
