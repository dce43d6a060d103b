-- The theorem is proved in Calls.
use Rattle.mutator.proofs.Calls.{staying_valid}
use Rattle.mutator.proofs.laws.staying_valid.Goals as goal

pub returns : goal.returns
returns c = staying_valid
