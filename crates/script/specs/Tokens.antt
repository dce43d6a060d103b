-- The tokens of a line: its longest runs without a space or a tab.
use Rattle.std.specs.Prelude.{ℕ, suc, Bool, cond, ◌||◌, List, [], ◌∷◌, ◌==◌}
use Rattle.std.specs.Bool.{beq}

abbrev pub blank : ℕ → Bool
blank c = c == 32 || c == 9

-- what stands between one blank and the next, be it nothing
abbrev pub onto_first : ℕ → List (List ℕ) → List (List ℕ)
onto_first c [] = (c ∷ []) ∷ []
onto_first c (p ∷ ps) = (c ∷ p) ∷ ps

abbrev pub pieces : List ℕ → List (List ℕ)
pieces [] = [] ∷ []
pieces (c ∷ cs) = cond (blank c) ([] ∷ pieces cs) (onto_first c (pieces cs))

abbrev pub filled : List (List ℕ) → List (List ℕ)
filled [] = []
filled ([] ∷ ps) = filled ps
filled ((c ∷ p) ∷ ps) = (c ∷ p) ∷ filled ps

abbrev pub tokens : List ℕ → List (List ℕ)
tokens line = filled (pieces line)

-- how many bytes at the front are blanks (true), or are none (false)
abbrev pub run : Bool → List ℕ → ℕ
run b [] = 0
run b (c ∷ cs) = cond (beq (blank c) b) (suc (run b cs)) 0
