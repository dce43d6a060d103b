-- What the table says holds: of how calls are found and made again, and of calls where there is no room.
use Rattle.std.specs.Prelude.{◌≡◌, ℕ, Bool, true, ◌&&◌, nat_lt, cond, List, [], ◌∷◌, map, Some}
use Rattle.mutator.specs.declared.Ask.{Ask}
use Rattle.mutator.specs.declared.number.Number.{Number}
use Rattle.mutator.specs.declared.number.Number.TheVariants.{Slot, Place, WordIndex, Size, Value}
use Rattle.mutator.specs.Numbers.{value, like}
use Rattle.mutator.specs.Table.{entry, name, numbers, calls, named}
use Rattle.mutator.specs.Script.{Answer, told, answer}
use Rattle.mutator.specs.Refusals.{said}
use Rattle.world.specs.World.{blank}

-- numbers of these kinds
abbrev pub likes : List Number → List ℕ → List Number
likes [] ns = []
likes (k ∷ ks) [] = k ∷ ks
likes (k ∷ ks) (n ∷ ns) = like k n ∷ likes ks ns

-- a call is found by its name, has the kinds of numbers that are found there, and is made again of its numbers
pub record Found (q : Ask) : Type 0 where
  pub make : List Number → Ask
  pub is : named (name q) calls ≡ Some make
  pub kinds : likes (numbers (make [])) (map value (numbers q)) ≡ numbers q
  pub again : make (numbers q) ≡ q

-- where all of n slots are empty and there is no room: 2 if the call has a slot that is not there
abbrev pub there : ℕ → Number → Bool
there n (Slot s) = nat_lt s n
there n (Place i) = true
there n (WordIndex i) = true
there n (Size k) = true
there n (Value x) = true

abbrev pub all_there : ℕ → List Number → Bool
all_there n [] = true
all_there n (p ∷ ps) = there n p && all_there n ps

abbrev pub roomless : ℕ → Ask → Answer
roomless n q = cond (all_there n (numbers q)) (said (entry q).empty) (told 2 0)

-- every call of a script is in the table; and without room it is answered as the table says, and nothing changes
pub record TableHolds : Type 0 where
  pub found : (q : Ask) → Found q
  pub roomless : (n : ℕ) (q : Ask) →
      answer 0 (blank n) q ≡ record { told = roomless n q; after = blank n }
