-- What the first line makes.
use Rattle.std.specs.Prelude.{◌≡◌, ℕ, List, Some, None, Option, Ok, Err, Result}
use Rattle.world.specs.World.{blank}
use Rattle.world.specs.Room.{room}
use Rattle.reference.specs.View.{view}
use Rattle.script.specs.declared.error.LineError.{LineError}
use Rattle.script.specs.declared.read.HeapSize.{HeapSize}
use Rattle.script.specs.Reading.{opening_of}
use Rattle.driver.specs.declared.fault.Fault.{Fault}
use Rattle.driver.specs.declared.fault.Fault.TheVariants.{Line, NoMemory}
use Rattle.plain.specs.declared.Plain.{Plain}

-- so many words of room and empty slots as it says, if there is memory for them; else why not
abbrev pub BeginsAt : HeapSize → ℕ → Result (Option Plain) Fault → Type 0
BeginsAt h n (Ok None) = ⊥
BeginsAt h n (Ok (Some p)) = (p.0.room ≡ room h.words h.slots) × (view p.0 ≡ blank h.slots)
BeginsAt h n (Err f) = f ≡ NoMemory n

-- a line that is passed over makes none yet
abbrev pub BeginsAs : Result (Option HeapSize) LineError → ℕ → Result (Option Plain) Fault → Type 0
BeginsAs (Err e) n r = r ≡ Err (Line n e)
BeginsAs (Ok None) n r = r ≡ Ok None
BeginsAs (Ok (Some h)) n r = BeginsAt h n r

abbrev pub Begins : List ℕ → ℕ → Result (Option Plain) Fault → Type 0
Begins line n r = BeginsAs (opening_of line) n r
