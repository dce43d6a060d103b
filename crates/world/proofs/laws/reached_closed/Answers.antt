-- The theorem is proved in Reaching.
use Rattle.world.proofs.Reaching.{reaching}
use Rattle.world.proofs.laws.reached_closed.Goals as goal

pub returns : goal.returns
returns c = reaching
