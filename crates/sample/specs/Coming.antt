-- What a source means: the samples still to come, as their rows, and the ending after them. Assumes nothing.
use Rattle.std.specs.Prelude.{List, [], ◌∷◌, Ok, Err, Result}
use Rattle.sample.specs.declared.ending.Ending.{Ending}
use Rattle.sample.specs.declared.row.SampleRow.{SampleRow}
use Rattle.sample.specs.declared.sample.Sample.{Sample}

pub record Coming : Type 0 where
  pub samples : List SampleRow
  pub ending : Ending

-- the first sample or, if there is none, the ending
abbrev pub first : Coming → Result SampleRow Ending
first coming = elim coming.samples [ [] ↦ Err coming.ending | row ∷ rows ↦ Ok row ]

-- all but the first sample; the ending stays
abbrev pub rest : Coming → Coming
rest coming = record { samples = elim coming.samples [ [] ↦ [] | row ∷ rows ↦ rows ]; ending = coming.ending }

-- an answer with the sample as its row
abbrev pub shown : Result Sample Ending → Result SampleRow Ending
shown (Ok sample) = Ok sample.row
shown (Err ending) = Err ending
