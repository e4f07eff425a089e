use Rattle.std.proofs.Common.{◌≡◌}
use Rattle.strip.specs.Ring.{ring_of}
use Rattle.watch.specs.Memory.{memory}
use Rattle.replay.proofs.Chains.{Going}
use Rattle.replay.proofs.runs.replay.Given as goal

abbrev pub invariant-loop-i : goal.invariant-loop-i
invariant-loop-i g l = record {
  strip_same : l.strip.rows.ghost_name ≡ l.initial.strip.rows.ghost_name;
  tray_same : l.tray.rows.ghost_name ≡ l.initial.tray.rows.ghost_name;
  going : Going g.S.Scale.ops g.S.TestScale.reading l.calls l.initial.answers l.answers l.i
      (memory l.initial.watch (ring_of l.initial.strip) l.initial.cells (ring_of l.initial.tray) (g.Q.Source.meaning l.initial.source))
      (memory l.watch (ring_of l.strip) l.cells (ring_of l.tray) (g.Q.Source.meaning l.source));
}
