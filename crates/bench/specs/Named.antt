-- Where in the table of calls a name stands.
use Rattle.std.specs.Prelude.{◌≡◌, ℕ, [], List, Some, None, Option}
use Rattle.mutator.specs.declared.Ask.{Ask}
use Rattle.mutator.specs.Table.{name, calls, call_at}

abbrev pub name_of : Option Ask → Option (List ℕ)
name_of None = None
name_of (Some q) = Some (name q)

-- the call at this place has the name
abbrev pub NamedAt : ℕ → List ℕ → Type 0
NamedAt p n = name_of (call_at calls p []) ≡ Some n
