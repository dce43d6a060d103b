-- Why nothing is drawn.
use Rattle.std.specs.Prelude.{◌≡◌, ◌<◌}
use Rattle.layout.specs.Cells.{base}
use Rattle.script.specs.declared.read.HeapSize.{HeapSize}
use Rattle.driver.specs.declared.fault.Fault.TheVariants.{NoMemory}
use Rattle.draw.specs.declared.Failure.{Failure}
use Rattle.draw.specs.declared.Failure.TheVariants.{Usage, Unread, Script, TooFewCalls, TooFewWords, Unwritten}

-- too few words to start, or no memory
abbrev pub Undrawn : HeapSize → Failure → Type 0
Undrawn size (TooFewWords h) = (h ≡ size) × (size.words < base size.slots)
Undrawn size (Script fault) = fault ≡ NoMemory 1
Undrawn size Usage = ⊥
Undrawn size (Unread e) = ⊥
Undrawn size (TooFewCalls n k) = ⊥
Undrawn size (Unwritten e) = ⊥
