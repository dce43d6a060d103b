-- With a collection or without.
use Rattle.picture.proofs.Calls.{sweeps_none, sweeps_all}
use Rattle.picture.proofs.playing.sweep.Goals as goal

pub returns-then-wanted-clause-sweeps : goal.returns-then-wanted-clause-sweeps
returns-then-wanted-clause-sweeps g c = rw c.if-wanted.true (sweeps_all _ _ _ c.collect.ensures.collected)

pub returns-else-wanted-clause-sweeps : goal.returns-else-wanted-clause-sweeps
returns-else-wanted-clause-sweeps g c = rw c.if-wanted.false (sweeps_none _ _ c.requires.ok)
