-- The places before this one are put.
use Rattle.std.proofs.Common.{◌+◌, map}
use Rattle.layout.specs.Cells.{seg}
use Rattle.picture.specs.Puts.{Puts}
use Rattle.picture.specs.Spots.{place_of}
use Rattle.picture.proofs.survey.put_places.Given as goal

abbrev pub invariant-loop-i : goal.invariant-loop-i
invariant-loop-i g l = Puts g.W.Words l.i (map (place_of l.reached) (seg (g.W.Words.row l.initial.m.words) (l.object.at.0 + 2) l.i)) l.initial.spots.items l.spots.items l.initial.m l.m
