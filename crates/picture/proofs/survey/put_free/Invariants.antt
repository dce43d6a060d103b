-- The free words before this one are put.
use Rattle.std.proofs.Common.{◌≡◌, ◌-◌, ◌≤◌, ◌++◌, replicate}
use Rattle.picture.specs.declared.spot.Spot.TheVariants.{Free}
use Rattle.picture.proofs.survey.put_free.Given as goal

abbrev pub invariant-loop : goal.invariant-loop
invariant-loop g l = (l.spots.items ≡ l.initial.spots.items ++ replicate (l.counter - l.initial.counter) Free) × (l.counter - l.initial.counter ≤ l.end - l.initial.counter)
