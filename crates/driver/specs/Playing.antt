-- What is printed of a script, and how a program ends.
use Rattle.std.specs.Prelude.{◌≡◌, ◌⊎◌, ℕ, List, [], ◌∷◌, ◌++◌, map, IfOk, Ok, Err, vec_items, Option, Result, Vec, MatchResult}
use Rattle.std.specs.Io.KnownBytes.{Appends, Keeps}
use Rattle.std.specs.declared.alloc.AllocError.{AllocError}
use Rattle.std.specs.declared.alloc.Global.{Global}
use Rattle.mutator.specs.declared.Told.{Told}
use Rattle.world.specs.World.{blank}
use Rattle.mutator.specs.Script.{Answer, answers}
use Rattle.world.specs.Room.{room}
use Rattle.mutator.specs.Refusals.{answer_of}
use Rattle.script.specs.Text.{answer_text}
use Rattle.driver.specs.declared.fault.Fault.{Fault}
use Rattle.driver.specs.declared.fault.Fault.TheVariants.{Line, Unread, NoMemory, NoFirstLine, Unwritten}
use Rattle.driver.specs.declared.reading.Script.{Script}

-- the answers of the plain world to a script
abbrev pub answers_to : Script → List Answer
answers_to s = answers (room s.size.words s.size.slots) (blank s.size.slots) (vec_items s.calls)

-- what is told, if memory suffices
abbrev pub Answered : Script → Result (Vec Told Global) AllocError → Type 0
Answered s told = IfOk told (λ v. map answer_of (vec_items v) ≡ answers_to s)

abbrev pub Unprinted : Fault → Type 0
Unprinted (Unwritten e) = Unit {0}
Unprinted (Line n e) = ⊥
Unprinted (Unread n e) = ⊥
Unprinted (NoMemory n) = ⊥
Unprinted NoFirstLine = ⊥

-- a line for each answer
abbrev pub line_for : Answer → List ℕ
line_for a = answer_text a ++ 10 ∷ []

abbrev pub printed : List Answer → List ℕ
printed [] = []
printed (a ∷ rest) = line_for a ++ printed rest

-- as the script does, and the answers are printed, unless there was no memory for them or they could not be written
abbrev pub Ends : Script → Result (Vec Told Global) AllocError → Option (List ℕ) → Option (List ℕ) →
    Result (Unit {0}) Fault → Type 0
Ends s (Err e) out out' r = (r ≡ Err (NoMemory 1)) × Keeps out out'
Ends s (Ok v) out out' r =
    ((r ≡ s.end) × Appends out out' (printed (answers_to s))) ⊎ MatchResult r (λ _. ⊥) Unprinted

-- a script was answered and its answers printed; or there was no memory for them, or they could not be written
abbrev pub PlaysScript : Script → Option (List ℕ) → Option (List ℕ) →
    Result (Unit {0}) Fault → Type 0
PlaysScript s out out' r =
    ((r ≡ s.end) × Appends out out' (printed (answers_to s)))
    ⊎ ((r ≡ Err (NoMemory 1)) × Keeps out out') ⊎ MatchResult r (λ _. ⊥) Unprinted

-- what was read was played; where nothing could be, that is said
abbrev pub PlaysRead : Result Script Fault → Option (List ℕ) → Option (List ℕ) →
    Result (Unit {0}) Fault → Type 0
PlaysRead (Ok s) out out' r = PlaysScript s out out' r
PlaysRead (Err f) out out' r = (r ≡ Err f) × Keeps out out'
