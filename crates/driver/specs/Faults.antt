-- What is said of a fault.
use Rattle.std.specs.Prelude.{ℕ, List, ◌++◌, Some, None, codes, decimal, Option}
use Rattle.script.specs.Text.{error_text}
use Rattle.driver.specs.declared.fault.Fault.{Fault}
use Rattle.driver.specs.declared.fault.Fault.TheVariants.{Line, Unread, NoMemory, NoFirstLine, Unwritten}

-- the number of a line, and what follows it
abbrev pub at_line : ℕ → List ℕ → List ℕ
at_line n text = codes "line " ++ (decimal n ++ text)

-- nothing is known of the text of the system's errors
abbrev pub fault_text : Fault → Option (List ℕ)
fault_text (Line n e) = Some (at_line n (codes ": " ++ error_text e))
fault_text (Unread n e) = None
fault_text (NoMemory n) = Some (at_line n (codes ": no memory is left"))
fault_text NoFirstLine = Some (codes "line 1: expected the number of words and of slots")
fault_text (Unwritten e) = None
