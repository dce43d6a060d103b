-- A memory as a mutator sees it, and what a line does that is played on it.
use Rattle.std.specs.Prelude.{◌≡◌, ◌⊎◌, ℕ, List, Ok, Err, Some, None, Option, Result, MatchResult}
use Rattle.std.specs.declared.alloc.AllocError.{AllocError}
use Rattle.std.specs.Io.KnownBytes.{Appends, Keeps}
use Rattle.mutator.specs.declared.Ask.{Ask}
use Rattle.mutator.specs.declared.Told.{Told}
use Rattle.world.specs.World.{World}
use Rattle.mutator.specs.Script.{Answer, answer}
use Rattle.mutator.specs.Refusals.{answer_of}
use Rattle.script.specs.declared.error.LineError.{LineError}
use Rattle.script.specs.Reading.{line_of}
use Rattle.driver.specs.declared.fault.Fault.{Fault}
use Rattle.driver.specs.declared.fault.Fault.TheVariants.{Line, NoMemory}
use Rattle.driver.specs.Playing.{line_for, Unprinted}

-- so many words of room for objects, and a world
pub record Memory : Type 0 where
  pub room : ℕ
  pub world : World

abbrev pub told_by : Memory → Ask → Answer
told_by m q = (answer m.room m.world q).told

abbrev pub after : Memory → Ask → Memory
after m q = record { room = m.room; world = (answer m.room m.world q).after }

-- a call is answered as the specification says; where memory fails, all stays
abbrev pub Answers : Memory → Ask → Memory → Result Told AllocError → Type 0
Answers m q m' r = MatchResult r (λ t. (answer_of t ≡ told_by m q) × (m' ≡ after m q)) (λ e. m' ≡ m)

-- a call: its answer is printed; or memory failed, and all stays; or the answer could not be written
abbrev pub PlaysCall : Memory → Ask → Option (List ℕ) → ℕ → Memory → Option (List ℕ) →
    Result (Unit {0}) Fault → Type 0
PlaysCall m q out n m' out' r =
    MatchResult r (λ _. (m' ≡ after m q) × Appends out out' (line_for (told_by m q)))
    (λ f. ((f ≡ NoMemory n) × (m' ≡ m) × Keeps out out') ⊎ (Unprinted f × (m' ≡ after m q)))

-- what a line says is played; one that is refused, or has no call, changes nothing
abbrev pub PlaysSaid : Result (Option Ask) LineError → Memory → Option (List ℕ) → ℕ → Memory →
    Option (List ℕ) → Result (Unit {0}) Fault → Type 0
PlaysSaid (Err e) m out n m' out' r = (r ≡ Err (Line n e)) × (m' ≡ m) × Keeps out out'
PlaysSaid (Ok None) m out n m' out' r = (r ≡ Ok tt) × (m' ≡ m) × Keeps out out'
PlaysSaid (Ok (Some q)) m out n m' out' r = PlaysCall m q out n m' out' r

-- the line with this number is played
abbrev pub Plays : List ℕ → Memory → Option (List ℕ) → ℕ → Memory → Option (List ℕ) →
    Result (Unit {0}) Fault → Type 0
Plays line m out n m' out' r = PlaysSaid (line_of line) m out n m' out' r
