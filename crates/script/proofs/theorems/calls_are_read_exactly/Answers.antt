-- The theorems are proved among the lemmas.
use Rattle.script.proofs.Spelt.{reads_what_is_spelt, reads_lines}
use Rattle.script.proofs.theorems.calls_are_read_exactly.Goals as goal

pub returns-clause-calls : goal.returns-clause-calls
returns-clause-calls c = reads_what_is_spelt

pub returns-clause-lines : goal.returns-clause-lines
returns-clause-lines c = reads_lines
