-- The objects before the cursor are put, and those from there on are to come.
use Rattle.std.proofs.Common.{◌-◌}
use Rattle.picture.proofs.Putting.{Going}
use Rattle.picture.proofs.survey.put_objects.Given as goal

abbrev pub invariant-loop-object : goal.invariant-loop-object
invariant-loop-object g l = Going g.W.Words l.fn.m.slots l.initial.spots.items l.spots.items l.initial.m l.m l.objects l.end

abbrev pub decreases-loop-object : goal.decreases-loop-object
decreases-loop-object g l = l.end - l.objects.at.0
