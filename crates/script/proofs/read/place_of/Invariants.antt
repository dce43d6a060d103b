-- No call before this one has the name.
use Rattle.script.proofs.Naming.{Passed}
use Rattle.script.proofs.read.place_of.Given as goal

abbrev pub invariant-loop-place : goal.invariant-loop-place
invariant-loop-place l = Passed l.name l.place
