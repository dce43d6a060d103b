-- The theorem is proved in Cases.
use Rattle.mutator.proofs.Cases.{worked}
use Rattle.mutator.proofs.laws.worked_scripts.Goals as goal

pub returns : goal.returns
returns c = worked
