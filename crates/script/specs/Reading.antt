-- How a line is read: its first token is the name of a call, the others are the numbers, read from the left.
use Rattle.std.specs.Prelude.{◌≡◌, ℕ, ◌-◌, ◌^◌, Bool, true, false, cond, ◌||◌, List, [], ◌∷◌, ◌++◌, Some, None, Option, Ok, Err, Result, ◌==◌, slice_index}
use Rattle.std.specs.Borrow.{Bor}
use Rattle.mutator.specs.declared.Ask.{Ask}
use Rattle.mutator.specs.declared.number.Number.{Number}
use Rattle.mutator.specs.Numbers.{most, like}
use Rattle.mutator.specs.Table.{numbers, calls, named, call_at}
use Rattle.script.specs.declared.error.LineError.{LineError}
use Rattle.script.specs.declared.error.LineError.TheVariants.{UnknownCall, TooFewNumbers, TooManyNumbers, NumberTooLarge, WordsTooLarge}
use Rattle.script.specs.declared.read.HeapSize.{HeapSize}
use Rattle.script.specs.Tokens.{tokens}
use Rattle.script.specs.Numbers.{number}

abbrev pub bind : {A B E : Type 0} → Result A E → (A → Result B E) → Result B E
bind (Ok x) f = f x
bind (Err e) f = Err e

-- the number that the first token writes, if it is at most `most`, and the other tokens
abbrev pub next : ℕ → LineError → List (List ℕ) → Result (ℕ × List (List ℕ)) LineError
next most over [] = Err TooFewNumbers
next most over (t ∷ ts) = bind (number most over t) (λ n. Ok (n, ts))

-- one of a call's numbers, of this kind
abbrev pub next_like : Number → List (List ℕ) → Result (Number × List (List ℕ)) LineError
next_like k ts = bind (next (most k) (NumberTooLarge (most k)) ts) (λ p. Ok (like k p.0, p.1))

-- nothing is left
abbrev pub ended : List (List ℕ) → Result (Unit {0}) LineError
ended [] = Ok tt
ended (t ∷ ts) = Err TooManyNumbers

-- all numbers of a call, of these kinds, behind those in front
abbrev pub reads : List Number → List Number → List (List ℕ) → Result (List Number) LineError
reads front [] ts = bind (ended ts) (λ u. Ok front)
reads front (k ∷ ks) ts = bind (next_like k ts) (λ p. reads (front ++ p.0 ∷ []) ks p.1)

-- a function's result that has what is left of the line beside what was read, with the tokens of that
abbrev pub seen : {A : Type 0} →
    Result (A × Bor (List ℕ)) LineError → Result (A × List (List ℕ)) LineError
seen r = bind r (λ p. Ok (p.0, tokens p.1.now))

-- where in the table the call with this name is made, if there is one
abbrev pub StandsAt : List ℕ → Option ℕ → Type 0
StandsAt n None = named n calls ≡ None
StandsAt n (Some p) =
    (f : List Number → Ask)
    × (named n calls ≡ Some f) × ((ns : List Number) → call_at calls p ns ≡ Some (f ns))

-- the call with this name, of the numbers in these tokens
abbrev pub made_of : Option (List Number → Ask) → List (List ℕ) → Result Ask LineError
made_of None ts = Err UnknownCall
made_of (Some f) ts = bind (reads [] (numbers (f [])) ts) (λ ns. Ok (f ns))

abbrev pub called : List ℕ → List (List ℕ) → Result Ask LineError
called n ts = made_of (named n calls) ts

abbrev pub reading : List (List ℕ) → Result Ask LineError
reading [] = Err UnknownCall
reading (n ∷ ts) = called n ts

-- a line without the carriage return that may end it
abbrev pub last_return : ℕ → List ℕ → Bool
last_return c [] = c == 13
last_return c (d ∷ ds) = false

abbrev pub body : List ℕ → List ℕ
body [] = []
body (c ∷ cs) = cond (last_return c cs) [] (c ∷ body cs)

abbrev pub call_of : List ℕ → Result Ask LineError
call_of line = reading (tokens (body line))

-- the first line of a script: how many words and slots there are
abbrev pub heap_size : ℕ → ℕ → HeapSize
heap_size n r = record { words = n; slots = r }

-- fewer words than there are addresses, and fewer slots than 65,536
abbrev pub sized : List (List ℕ) → Result HeapSize LineError
sized ts =
    bind (next (2 ^ 56 - 1) WordsTooLarge ts) (λ p.
    bind (next 65535 (NumberTooLarge 65535) p.1) (λ q.
    bind (ended q.1) (λ u. Ok (heap_size p.0 q.0))))

abbrev pub heap_size_of : List ℕ → Result HeapSize LineError
heap_size_of line = sized (tokens (body line))

-- a line that begins with `#`, or has no token, is passed over
abbrev pub none_of : List (List ℕ) → Bool
none_of [] = true
none_of (t ∷ ts) = false

abbrev pub passed_over : List ℕ → Bool
passed_over line = slice_index line 0 == 35 || none_of (tokens (body line))

-- a line after the first: a call, or none if it is passed over
abbrev pub line_of : List ℕ → Result (Option Ask) LineError
line_of line = cond (passed_over line) (Ok None) (bind (call_of line) (λ q. Ok (Some q)))

-- the first line of a script, unless it is passed over
abbrev pub opening_of : List ℕ → Result (Option HeapSize) LineError
opening_of line = cond (passed_over line) (Ok None) (bind (heap_size_of line) (λ h. Ok (Some h)))
