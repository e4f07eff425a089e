use Rattle.std.proofs.Common.{◌+◌}
use Rattle.evaluation.proofs.Downwards.{down}
use Rattle.evaluation.proofs.ring.Ring.since.Given as goal

abbrev pub ghost-pass : goal.ghost-pass
ghost-pass g a = down (a.j + 1) (a.j + 1)
