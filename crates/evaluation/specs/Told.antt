-- The code's words for the ends of a node and for what a pass has seen, in the words of the logic. Assumes nothing.
use Rattle.logic.specs.Meaning.{Ends}
use Rattle.evaluation.specs.Pass.{Pass}
use Rattle.evaluation.specs.declared.ends.Ends.{Ends as Pair}
use Rattle.evaluation.specs.declared.pass.Seen.{Seen}

module _ {V : Type 0} where
  abbrev pub told : Pair V → Ends V
  told e = record { low = e.low; high = e.high }

  -- the pass of the low ends alone, and that of the high ends
  abbrev pub lows : Seen V → Pass V
  lows s = record { found = s.found.low; so_far = s.so_far.low }

  abbrev pub highs : Seen V → Pass V
  highs s = record { found = s.found.high; so_far = s.so_far.high }
