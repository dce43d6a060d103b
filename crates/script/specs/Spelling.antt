-- When a line spells a call, and the theorems on reading, as types.
use Rattle.std.specs.Prelude.{◌≡◌, ℕ, ◌<◌, ◌≤◌, ◌^◌, true, List, [], ◌∷◌, map, Some, Ok}
use Rattle.std.specs.Str.{all_ascii_digits}
use Rattle.mutator.specs.declared.Ask.{Ask}
use Rattle.mutator.specs.declared.number.Number.{Number}
use Rattle.mutator.specs.Numbers.{value, most}
use Rattle.mutator.specs.Table.{name, numbers}
use Rattle.script.specs.declared.read.HeapSize.{HeapSize}
use Rattle.script.specs.Text.{call_text}
use Rattle.script.specs.Tokens.{tokens}
use Rattle.script.specs.Numbers.{value as written}
use Rattle.script.specs.Reading.{body, call_of, line_of, heap_size_of, opening_of}

-- each token is digits that come to the number at its place
abbrev pub WriteAll : List (List ℕ) → List ℕ → Type 0
WriteAll [] [] = Unit {0}
WriteAll [] (n ∷ ns) = ⊥
WriteAll (t ∷ ts) [] = ⊥
WriteAll (t ∷ ts) (n ∷ ns) = (all_ascii_digits t ≡ true) × (written t ≡ n) × WriteAll ts ns

-- each number is at most what one of its kind may be
abbrev pub AllWithin : List Number → Type 0
AllWithin [] = Unit {0}
AllWithin (n ∷ ns) = (value n ≤ most n) × AllWithin ns

abbrev pub Fits : Ask → Type 0
Fits q = AllWithin (numbers q)

-- the line's tokens are the name of the call and its numbers
pub record Spells (line : List ℕ) (q : Ask) : Type 0 where
  pub rest : List (List ℕ)
  pub named : tokens (body line) ≡ name q ∷ rest
  pub written : WriteAll rest (map value (numbers q))
  pub fits : Fits q

-- a line is read as the call that it spells, and refused if it spells none
abbrev pub ReadsWhatIsSpelt : Type 0
ReadsWhatIsSpelt =
    (line : List ℕ) (q : Ask) →
    (call_of line ≡ Ok q → Spells line q) × (Spells line q → call_of line ≡ Ok q)

-- and as a line of a script: what spells a call is never passed over
abbrev pub ReadsLines : Type 0
ReadsLines =
    (line : List ℕ) (q : Ask) →
    (line_of line ≡ Ok (Some q) → Spells line q) × (Spells line q → line_of line ≡ Ok (Some q))

-- what is printed of a call is read as that call, and as a line of a script
abbrev pub ReadsBack : Type 0
ReadsBack =
    (q : Ask) → Fits q →
    (call_of (call_text q) ≡ Ok q) × (line_of (call_text q) ≡ Ok (Some q))

-- the same of the first line: its tokens are the number of words and the number of slots
abbrev pub SpellsSize : List ℕ → HeapSize → Type 0
SpellsSize line h =
    WriteAll (tokens (body line)) (h.words ∷ h.slots ∷ []) × (h.words < 2 ^ 56) × (h.slots < 65536)

abbrev pub ReadsSizeThatIsSpelt : Type 0
ReadsSizeThatIsSpelt =
    (line : List ℕ) (h : HeapSize) →
    (heap_size_of line ≡ Ok h → SpellsSize line h) × (SpellsSize line h → heap_size_of line ≡ Ok h)

-- and of the line that opens a script
abbrev pub ReadsOpenings : Type 0
ReadsOpenings =
    (line : List ℕ) (h : HeapSize) →
    (opening_of line ≡ Ok (Some h) → SpellsSize line h) × (SpellsSize line h → opening_of line ≡ Ok (Some h))
