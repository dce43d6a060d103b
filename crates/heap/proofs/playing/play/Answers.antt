-- Of each turn the answer is kept.
use Rattle.heap.proofs.Scripts.{play_says}
use Rattle.heap.proofs.playing.play.Goals as goal

pub returns : goal.returns
returns c = play_says _ _ _ _ _ c.play_as.ensures
