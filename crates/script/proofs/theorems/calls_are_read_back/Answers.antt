-- The theorem is proved among the lemmas.
use Rattle.script.proofs.Printed.{reads_back}
use Rattle.script.proofs.theorems.calls_are_read_back.Goals as goal

pub returns : goal.returns
returns c = reads_back
