use Rattle.logic.proofs.Lists.{can_continue}
use Rattle.logic.proofs.can_continue.Goals as goal

pub returns : goal.returns
returns c = can_continue
