-- The theorems are proved among the lemmas.
use Rattle.script.proofs.Spelt.{reads_size_that_is_spelt, reads_openings}
use Rattle.script.proofs.theorems.heap_sizes_are_read_exactly.Goals as goal

pub returns-clause-sizes : goal.returns-clause-sizes
returns-clause-sizes c = reads_size_that_is_spelt

pub returns-clause-openings : goal.returns-clause-openings
returns-clause-openings c = reads_openings
