-- The refusal of an ending. Assumes nothing.
use Rattle.refusal.specs.declared.Refusal.{Refusal}
use Rattle.refusal.specs.declared.Refusal.TheVariants as refusal
use Rattle.sample.specs.declared.ending.Ending.{Ending}
use Rattle.sample.specs.declared.ending.Ending.TheVariants as ending

abbrev pub refusal_of : Ending → Refusal
refusal_of ending.Dry = refusal.Dry
refusal_of (ending.Fault fault) = refusal.Fault fault
