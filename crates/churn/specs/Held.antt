-- The calls that make a held object.
use Rattle.std.specs.Prelude.{ℕ, zero, suc, ◌+◌, ◌-◌, ◌/◌, ◌%◌, cond, List, [], ◌∷◌, ◌++◌, ◌==◌}
use Rattle.mutator.specs.declared.Ask.{Ask}
use Rattle.mutator.specs.declared.Ask.TheVariants.{New, Set, Copy}
use Rattle.churn.specs.declared.TheConstants.{ROW, FIRST, MADE}
use Rattle.churn.specs.declared.Mostly.{Mostly}
use Rattle.churn.specs.declared.Mostly.TheVariants.{Places, Mixed, Words}

-- how many places an object has besides its first, of so many places and words in all
abbrev pub places_for : Mostly → ℕ → ℕ
places_for Places rest = rest - rest / 8
places_for Mixed rest = rest / 2
places_for Words rest = rest / 8

-- its places from the second on, so many: they hold the first of all and the one before it by turns
abbrev pub turn : ℕ → Ask
turn i = Set MADE (i + 1) (cond (i % 2 == 0) FIRST ROW)

abbrev pub turns : ℕ → List Ask
turns zero = []
turns (suc k) = turns k ++ turn k ∷ []

-- an object with so many more places and words than its first place, which holds the one before it
abbrev pub object_of : ℕ → ℕ → List Ask
object_of more count = New MADE (more + 1) count ∷ Set MADE 0 ROW ∷ turns more ++ Copy ROW MADE ∷ []

abbrev pub held_calls : Mostly → ℕ → List Ask
held_calls mostly weight =
    object_of (places_for mostly (weight - 3)) (weight - 3 - places_for mostly (weight - 3))
