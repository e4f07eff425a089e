-- The limits of codes, levels and margins. Assumes nothing.
use Rattle.std.specs.Prelude.{ℕ, ◌+◌, ◌*◌}

abbrev pub largest_code : ℕ
largest_code = 4095

-- the largest code reads as 2 × largest_code + 1 against the level 0: the best margin is the next odd number
abbrev pub best_margin : ℕ
best_margin = 2 * largest_code + 3
