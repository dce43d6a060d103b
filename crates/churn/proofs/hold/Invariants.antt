-- What is left to hold falls with each object.
use Rattle.churn.proofs.hold.Given as goal

abbrev pub decreases-loop-left : goal.decreases-loop-left
decreases-loop-left l = l.left
