-- What was asked of words, for those who want to know what a stop leaves of them.
use Rattle.std.specs.Prelude.{◌≡◌, ℕ, List, ◌∷◌}
use Rattle.words.specs.declared.asked.Asked.{Asked}

-- the row at first, and what was asked since then, newest first
pub record Past : Type 0 where
  pub first : List ℕ
  pub asked : List Asked

-- nothing was asked: each past that there may be now is one that there may have been before
abbrev pub NotesNothing : (Past → Type 0) → (Past → Type 0) → Type 0
NotesNothing old new = (q : Past) → new q → old q

-- one thing was asked: each past that there may be now is one of before with this behind it
abbrev pub Notes : Asked → (Past → Type 0) → (Past → Type 0) → Type 0
Notes e old new = (q : Past) → new q
    → (p : Past) × (old p × (q ≡ record { first = p.first; asked = e ∷ p.asked }))
