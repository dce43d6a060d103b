-- What a call leaves in the output behind it.
use Rattle.std.specs.Prelude.{◌≡◌, ℕ, List, [], ◌++◌, length, drop}
use Rattle.mutator.specs.declared.Ask.{Ask}

-- some numbers stand first in an output, and the rest of it is as it was
abbrev pub Fills : List ℕ → List ℕ → List ℕ → Type 0
Fills ns out out' = out' ≡ ns ++ drop (length ns) out

-- no call writes a number as yet
abbrev pub Writes : Ask → List ℕ → List ℕ → Type 0
Writes q out out' = Fills [] out out'
