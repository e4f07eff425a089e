use Rattle.logic.proofs.Computed.{worked_examples}
use Rattle.logic.proofs.worked_examples.Goals as goal

pub returns : goal.returns
returns c = worked_examples
