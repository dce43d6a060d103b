-- What a collection leaves is what a Collect promises.
use Rattle.heap.proofs.Arms.{collected_calls, told_calls}
use Rattle.pagzimul.proofs.core_calls.pagzimul_collect.Goals as goal

pub returns : goal.returns
returns c = told_calls _ _ _ _ _ _ c.from.ensures (collected_calls _ _ _ c.sweep.ensures)
