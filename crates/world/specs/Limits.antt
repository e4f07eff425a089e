-- The limit of sample strips. Assumes nothing.
use Rattle.std.specs.Prelude.{ℕ}

-- a strip that a watch is armed with has at most so many places
abbrev pub most_places : ℕ
most_places = 4096
