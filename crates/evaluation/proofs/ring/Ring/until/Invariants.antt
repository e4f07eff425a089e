use Rattle.std.proofs.Common.{◌-◌}
use Rattle.std.specs.List.{range_with_len}
use Rattle.evaluation.proofs.ring.Ring.until.Given as goal

abbrev pub ghost-pass : goal.ghost-pass
ghost-pass g a = range_with_len a.j (a.self.now.view.count - a.j)
