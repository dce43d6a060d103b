-- The theorem is proved in Calls.
use Rattle.mutator.proofs.Calls.{agrees}
use Rattle.mutator.proofs.laws.alike_answers.Goals as goal

pub returns : goal.returns
returns c = agrees
