-- The slots before this one are put.
use Rattle.picture.specs.Puts.{Puts}
use Rattle.picture.specs.Spots.{slots_of}
use Rattle.picture.proofs.survey.put_slots.Given as goal

abbrev pub invariant-loop-s : goal.invariant-loop-s
invariant-loop-s g l = Puts g.W.Words l.s (slots_of l.s (g.W.Words.row l.initial.m.words)) l.initial.spots.items l.spots.items l.initial.m l.m
