-- What the lines of a script say, one after the other, and which lines an input has.
use Rattle.std.specs.Prelude.{◌≡◌, ℕ, zero, suc, ◌+◌, ◌<◌, List, [], ◌∷◌, ◌++◌, length, take, IfOk, IfErr, IfSome, Some, None, Ok, Err, vec_items, Option, Result, Vec, MatchResult, slice_index_or}
use Rattle.std.specs.Result.{result_and}
use Rattle.std.specs.Io.BufRead.{first_line, drop_through}
use Rattle.std.specs.declared.alloc.Global.{Global}
use Rattle.mutator.specs.declared.Ask.{Ask}
use Rattle.script.specs.declared.error.LineError.{LineError}
use Rattle.script.specs.declared.read.HeapSize.{HeapSize}
use Rattle.script.specs.Reading.{bind, opening_of, line_of}
use Rattle.driver.specs.declared.fault.Fault.{Fault}
use Rattle.driver.specs.declared.fault.Fault.TheVariants.{Line, Unread, NoMemory, NoFirstLine, Unwritten}
use Rattle.driver.specs.declared.reading.Reading.{Reading}
use Rattle.driver.specs.declared.reading.Script.{Script}

-- what the lines so far said: the words and slots, once a line did, and the calls
pub record Said : Type 0 where
  pub opened : Option HeapSize
  pub asked : List Ask

abbrev pub said : Option HeapSize → List Ask → Said
said o qs = record { opened = o; asked = qs }

abbrev pub nothing : Said
nothing = said None []

abbrev pub so_far : Reading → Said
so_far r = said r.size (vec_items r.calls)

-- a call comes behind the others
abbrev pub with_line : List Ask → Option Ask → List Ask
with_line qs None = qs
with_line qs (Some q) = qs ++ (q ∷ [])

-- one line more; the first that is not passed over says how many words and slots there are
abbrev pub one_more : Option HeapSize → List Ask → List ℕ → Result Said LineError
one_more None qs line = bind (opening_of line) (λ o. Ok (said o qs))
one_more (Some h) qs line = bind (line_of line) (λ l. Ok (said (Some h) (with_line qs l)))

abbrev pub after : Said → List ℕ → Result Said LineError
after s line = one_more s.opened s.asked line

-- all lines, if none is refused
abbrev pub after_all : Said → List (List ℕ) → Result Said LineError
after_all s [] = Ok s
after_all s (l ∷ ls) = bind (after s l) (λ t. after_all t ls)

-- the line has a call
pub record Asks (s : Said) (line : List ℕ) : Type 0 where
  pub call : Ask
  pub adds : after s line ≡ Ok (said s.opened (s.asked ++ (call ∷ [])))

-- what ends the reading at a line with this number: it is refused, or it has a call that finds no memory
abbrev pub Stops : Said → ℕ → List ℕ → Fault → Type 0
Stops s n line (Line m e) = (m ≡ n) × (after s line ≡ Err e)
Stops s n line (NoMemory m) = (m ≡ n) × Asks s line
Stops s n line (Unread m e) = ⊥
Stops s n line NoFirstLine = ⊥
Stops s n line (Unwritten e) = ⊥

-- a line is taken, or ends the reading and leaves what was said
abbrev pub Takes : Said → ℕ → List ℕ → Said → Result (Unit {0}) Fault → Type 0
Takes s n line t r = MatchResult r (λ _. after s line ≡ Ok t) (λ f. Stops s n line f × (t ≡ s))

-- all lines are taken, or one ends the reading; those before it are taken
pub record StopsIn (s : Said) (lines : List (List ℕ)) (t : Said) (f : Fault) : Type 0 where
  pub before : ℕ
  pub within : before < length lines
  pub taken : after_all s (take before lines) ≡ Ok t
  pub stops : Stops t (before + 1) (slice_index_or lines before []) f

abbrev pub TakesAll : Said → List (List ℕ) → Said → Result (Unit {0}) Fault → Type 0
TakesAll s lines t r = MatchResult r (λ _. after_all s lines ≡ Ok t) (λ f. StopsIn s lines t f)

-- the fault of a script without a first line
abbrev pub unopened : Result (Unit {0}) Fault → Fault
unopened (Ok _) = NoFirstLine
unopened (Err f) = f

-- what was read as a script; there is none if no line said how many words and slots there are
abbrev pub script_of : Option HeapSize → Vec Ask Global → Result (Unit {0}) Fault →
    Result Script Fault
script_of None qs end = Err (unopened end)
script_of (Some h) qs end = Ok (record { size = h; calls = qs; end = end })

-- how the input ends behind so many lines: there are no more, or the next cannot be read or finds no memory
abbrev pub Cuts : ℕ → Fault → Type 0
Cuts n (Unread m e) = m ≡ n
Cuts n (NoMemory m) = m ≡ n
Cuts n (Line m e) = ⊥
Cuts n NoFirstLine = ⊥
Cuts n (Unwritten e) = ⊥

abbrev pub EndsBehind : ℕ → Result (Unit {0}) Fault → Type 0
EndsBehind n r = IfErr r (λ f. Cuts (n + 1) f)

-- the lines of some bytes, without their ends; there are no more lines than bytes
abbrev pub lines_up_to : ℕ → List ℕ → List (List ℕ)
lines_up_to zero bs = []
lines_up_to (suc k) [] = []
lines_up_to (suc k) (b ∷ bs) = first_line (b ∷ bs) ∷ lines_up_to k (drop_through 10 (b ∷ bs))

abbrev pub all_lines : List ℕ → List (List ℕ)
all_lines bs = lines_up_to (length bs) bs

-- where the input's bytes are known: these are its first lines, and all of them if nothing ended the reading before
abbrev pub AreLinesOf : Option (List ℕ) → List (List ℕ) → Result (Unit {0}) Fault → Type 0
AreLinesOf bytes lines r =
    IfSome bytes (λ bs. (lines ≡ take (length lines) (all_lines bs))
    × IfOk r (λ _. lines ≡ all_lines bs))

-- the lines of an input are taken, up to one that ends the reading; such a line counts before how the input ended
pub record TakesInput
    (bytes : Option (List ℕ)) (s t : Said) (r : Result (Unit {0}) Fault) : Type 0 where
  pub lines : List (List ℕ)
  pub end : Result (Unit {0}) Fault
  pub input : Result (Unit {0}) Fault
  pub takes : TakesAll s lines t end
  pub ends : EndsBehind (length lines) input
  pub is : r ≡ result_and end input
  pub are : AreLinesOf bytes lines r

-- what the lines of an input come to; a line that ends the reading counts before how the input ended
pub record Says (lines : List (List ℕ)) (input : Result (Unit {0}) Fault)
    (r : Result Script Fault) : Type 0 where
  pub read : Reading
  pub end : Result (Unit {0}) Fault
  pub takes : TakesAll nothing lines (so_far read) end
  pub script : r ≡ script_of read.size read.calls (result_and end input)

-- what an input comes to
pub record SaidBy (bytes : Option (List ℕ)) (r : Result Script Fault) : Type 0 where
  pub lines : List (List ℕ)
  pub input : Result (Unit {0}) Fault
  pub ends : EndsBehind (length lines) input
  pub says : Says lines input r
  pub are : AreLinesOf bytes lines (result_and says.end input)
