-- Which of the calls a call is: its name in the table of calls.
use Rattle.std.specs.Prelude.{◌≡◌, Some, None, Option}
use Rattle.mutator.specs.declared.Ask.{Ask}
use Rattle.mutator.specs.Table.{name}
use Rattle.bench.specs.declared.kind.CallKind.{CallKind}

-- the kind of the call at a place of the table, if there is one
abbrev pub IsAt : Option Ask → Option CallKind → Type 0
IsAt None None = Unit {0}
IsAt None (Some k) = ⊥
IsAt (Some q) None = ⊥
IsAt (Some q) (Some k) = k.name.now ≡ name q
