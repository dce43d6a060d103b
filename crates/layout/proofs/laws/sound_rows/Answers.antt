-- The examples are tested in Examples.
use Rattle.layout.proofs.Examples.{sound_rows}
use Rattle.layout.proofs.laws.sound_rows.Goals as goal

pub returns : goal.returns
returns c = sound_rows
