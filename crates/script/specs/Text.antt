-- How a call and an answer are written: the name and the numbers, each after one space, in decimal.
use Rattle.std.specs.Prelude.{ℕ, ◌+◌, List, [], ◌∷◌, ◌++◌, map, codes, decimal}
use Rattle.mutator.specs.declared.Ask.{Ask}
use Rattle.mutator.specs.Numbers.{value}
use Rattle.mutator.specs.Table.{name, numbers, calls}
use Rattle.mutator.specs.Script.{Answer}
use Rattle.script.specs.declared.error.LineError.{LineError}
use Rattle.script.specs.declared.error.LineError.TheVariants.{UnknownCall, TooFewNumbers, TooManyNumbers, NotANumber, NumberTooLarge, WordsTooLarge}

-- each number after one space
abbrev pub spaced : List ℕ → List ℕ
spaced [] = []
spaced (n ∷ ns) = 32 ∷ decimal n ++ spaced ns

abbrev pub call_text : Ask → List ℕ
call_text q = name q ++ spaced (map value (numbers q))

abbrev pub answer_text : Answer → List ℕ
answer_text a = decimal a.code ++ spaced (a.val ∷ [])

-- one of these: commas between them, and `or` before the last
abbrev pub others : List (List ℕ) → List ℕ
others [] = []
others (a ∷ []) = codes " or " ++ a
others (a ∷ b ∷ more) = codes ", " ++ a ++ others (b ∷ more)

abbrev pub one_of : List (List ℕ) → List ℕ
one_of [] = []
one_of (a ∷ more) = a ++ others more

-- what was expected in place of a line that is refused
abbrev pub error_text : LineError → List ℕ
error_text UnknownCall = codes "expected " ++ one_of (map (λ f. name (f [])) calls)
error_text TooFewNumbers = codes "expected one more number"
error_text TooManyNumbers = codes "expected nothing behind the last number"
error_text NotANumber = codes "expected a number of decimal digits"
error_text (NumberTooLarge most) = codes "expected a number below " ++ decimal (most + 1)
error_text WordsTooLarge = codes "expected fewer than 72057594037927936 words"
