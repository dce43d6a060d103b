-- The worked scripts, answered by the definitions.
use Rattle.std.proofs.Common.{refl}
use Rattle.mutator.specs.Examples.{WorkedScripts}

pub worked : WorkedScripts
worked = record { lent = refl; full = refl; itself = refl; refused = refl; chain = refl; cycle = refl }
