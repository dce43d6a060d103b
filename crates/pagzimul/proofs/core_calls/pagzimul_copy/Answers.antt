-- What the closure's call did, of the world.
use Rattle.std.proofs.Common.{rules}
use Rattle.heap.proofs.Arms.{acts_calls}
use Rattle.pagzimul.proofs.core_calls.pagzimul_copy.Goals as goal

pub returns : goal.returns
returns c = acts_calls _ _ _ _ _ (λ e. cc) (search rules)
