-- The theorem is proved in Calls.
use Rattle.mutator.proofs.Calls.{agree}
use Rattle.mutator.proofs.laws.alike_step.Goals as goal

pub returns : goal.returns
returns c = agree
