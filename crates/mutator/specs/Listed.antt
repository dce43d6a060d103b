-- What the code says of a call is what the table says.
use Rattle.std.specs.Prelude.{◌≡◌, List, [], ◌∷◌}
use Rattle.mutator.specs.declared.table.Entry.{Entry}
use Rattle.mutator.specs.declared.number.Number.{Number}
use Rattle.mutator.specs.declared.number.Numbers.{Numbers}
use Rattle.mutator.specs.declared.number.Numbers.TheVariants.{Zero, One, Two, Three}
use Rattle.mutator.specs.Table.{Entry as Line}

-- the numbers of a call as a list
abbrev pub listed : Numbers → List Number
listed Zero = []
listed (One a) = a ∷ []
listed (Two a b) = a ∷ b ∷ []
listed (Three a b c) = a ∷ b ∷ c ∷ []

pub record Lists (e : Entry) (l : Line) : Type 0 where
  pub named : e.name.now ≡ l.name
  pub numbers : listed e.numbers ≡ l.numbers
  pub empty : e.empty ≡ l.empty
