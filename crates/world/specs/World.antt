-- The model: the abstract state of a monitor with its trace, its finished verdicts and its stream of samples, under one owner, that is
-- with memory that nobody else alters between calls. Assumes nothing.
use Rattle.std.specs.Prelude.{ℕ, List, [], None, Option}
use Rattle.rule.specs.declared.rule.Rule.{Rule}
use Rattle.sample.specs.Coming.{Coming}
use Rattle.sample.specs.declared.row.SampleRow.{SampleRow}
use Rattle.world.specs.declared.reading.Reading.{Reading}

-- how much memory is lent: places of the sample strip, cells, places of the tray
pub record Sizes : Type 0 where
  pub places : ℕ
  pub cells : ℕ
  pub tray_places : ℕ

-- what arm stores: the rule, and C, the places of the sample strip
pub record Armed : Type 0 where
  pub rule : Rule
  pub places : ℕ

-- capture: the trace so far, that is the accepted samples; taken: how many positions have their final verdict; pulled and tray: these
-- verdicts, as readings, oldest first; coming: what the source still means
pub record World (V : Type 0) : Type 0 where
  pub armed : Option Armed
  pub capture : List SampleRow
  pub taken : ℕ
  pub pulled : List (Reading V)
  pub tray : List (Reading V)
  pub coming : Coming

-- nothing was armed, drawn, taken or pulled yet; the source may be any
abbrev pub unused : {V : Type 0} → Coming → World V
unused coming = record { armed = None; capture = []; taken = 0; pulled = []; tray = []; coming = coming }
