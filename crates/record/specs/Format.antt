-- The format of a record. Assumes nothing.
use Rattle.std.specs.Prelude.{ℕ, zero, suc, ◌/◌, ◌%◌, List, [], ◌∷◌, ◌++◌, length}
use Rattle.rule.specs.declared.node.NodeRow.{NodeRow}
use Rattle.sample.specs.declared.row.SampleRow.{SampleRow}

-- a number in so many bytes and one more, the low byte first; the last has all that is left, so it is below 256, a byte,
-- only if the number fits
abbrev pub low_first : ℕ → ℕ → List ℕ
low_first zero n = n ∷ []
low_first (suc more) n = n % 256 ∷ low_first more (n / 256)

abbrev pub one : ℕ → List ℕ
one n = low_first 0 n

abbrev pub two : ℕ → List ℕ
two n = low_first 1 n

abbrev pub four : ℕ → List ℕ
four n = low_first 3 n

abbrev pub eight : ℕ → List ℕ
eight n = low_first 7 n

-- one after another
abbrev pub each : {X : Type 0} → (X → List ℕ) → List X → List ℕ
each bytes [] = []
each bytes (x ∷ xs) = bytes x ++ each bytes xs

-- a part that is bytes already
abbrev pub itself : List ℕ → List ℕ
itself bytes = bytes

-- seven bytes
abbrev pub node_bytes : NodeRow → List ℕ
node_bytes row = one row.kind ++ (one row.first ++ (one row.second ++ (two row.low ++ two row.high)))

-- sixteen bytes, of four codes
abbrev pub sample_bytes : SampleRow → List ℕ
sample_bytes row = eight row.stamp ++ each two row.codes

-- the section of the nodes, and what follows it
abbrev pub nodes_then : List NodeRow → List ℕ → List ℕ
nodes_then rows rest = one (length rows) ++ (each node_bytes rows ++ rest)

-- the section of so many samples, whatever their bytes are
abbrev pub samples_then : ℕ → List ℕ → List ℕ
samples_then samples body = four samples ++ body
