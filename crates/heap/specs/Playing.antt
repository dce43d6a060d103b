-- What is left of a script that is played: its answers, its touches, and a world alike to the one after it.
use Rattle.std.specs.Prelude.{◌≡◌, ℕ, ◌+◌, ◌*◌, ◌<◌, ◌≤◌, Bool, true, false, List, [], ◌∷◌, map, length, take, drop}
use Rattle.mutator.specs.declared.Ask.{Ask}
use Rattle.mutator.specs.declared.Told.{Told}
use Rattle.world.specs.World.{World, blank}
use Rattle.world.specs.Alike.{Alike}
use Rattle.mutator.specs.Script.{Answer, answer, answers}
use Rattle.mutator.specs.Refusals.{answer_of}
use Rattle.world.specs.Room.{room}
use Rattle.layout.specs.Cells.{base, world_of}
use Rattle.store.specs.Ready.{Ready}
use Rattle.heap.specs.Says.{Does}
use Rattle.heap.specs.declared.playing.Turn.{Turn}

-- words that a manager works on, or that are too few to start
abbrev pub Stands : Bool → ℕ → List ℕ → Type 0
Stands true slots row = Ready slots row 0
Stands false slots row = length row < base slots

abbrev pub standing : Bool → ℕ → List ℕ → World
standing true slots row = world_of slots row
standing false slots row = blank slots

-- one call: the answer is the world's, in so many touches
pub record Turns (ready : Bool) (q : Ask) (slots : ℕ) (row row' : List ℕ) (t : Turn) : Type 0 where
  pub stands : Stands ready slots row'
  pub long : length row' ≡ length row
  pub does :
      Does (room (length row) slots) q (standing ready slots row) (standing ready slots row')
      (answer_of t.told)
  pub touched : t.touched ≤ 9 * length row + 6

abbrev pub world_after : ℕ → World → List Ask → World
world_after cap w [] = w
world_after cap w (q ∷ qs) = world_after cap (answer cap w q).after qs

abbrev pub answered : List Turn → List Answer
answered ts = map (λ t. answer_of t.told) ts

abbrev pub Bounded : ℕ → List Turn → Type 0
Bounded n [] = Unit {0}
Bounded n (t ∷ ts) = (t.touched ≤ 9 * n + 6) × Bounded n ts

-- one by one what is kept of a turn
abbrev pub Given : {X : Type 0} → (Turn → X → Type 0) → List Turn → List X → Type 0
Given g [] [] = Unit {0}
Given g [] (x ∷ xs) = ⊥
Given g (t ∷ ts) [] = ⊥
Given g (t ∷ ts) (x ∷ xs) = g t x × Given g ts xs

-- calls one after the other: what is kept of each stands in the place of each, and from n on all stays
pub record Played {X : Type 0} (gives : Turn → X → Type 0) (n : ℕ) (ready : Bool) (qs : List Ask)
    (slots : ℕ) (row row' : List ℕ) (o o' : List X) : Type 0 where
  pub turns : List Turn
  pub stands : Stands ready slots row'
  pub long : length row' ≡ length row
  pub alike :
      Alike (world_after (room (length row) slots) (standing ready slots row) qs)
      (standing ready slots row')
  pub told : answered turns ≡ answers (room (length row) slots) (standing ready slots row) qs
  pub bounded : Bounded (length row) turns
  pub given : Given gives turns (take (length qs) o')
  pub rest : drop n o' ≡ drop n o

-- a whole script on n words whatever stood in them
pub record PlaysAs {X : Type 0} (gives : Turn → X → Type 0)
    (n slots : ℕ) (qs : List Ask) (o o' : List X) : Type 0 where
  pub turns : List Turn
  pub told : answered turns ≡ answers (room n slots) (blank slots) qs
  pub bounded : Bounded n turns
  pub given : Given gives turns (take (length qs) o')
  pub rest : drop (length qs) o' ≡ drop (length qs) o

-- a whole script from a world: the answers are the world's, and those past the script's length stay
abbrev pub Tells : ℕ → World → List Ask → List Told → List Told → Type 0
Tells cap w qs o o' =
    (map answer_of (take (length qs) o') ≡ answers cap w qs)
    × (drop (length qs) o' ≡ drop (length qs) o)

-- on n words with r slots it begins with the blank world
abbrev pub PlaySays : ℕ → ℕ → List Ask → List Told → List Told → Type 0
PlaySays n r qs o o' = Tells (room n r) (blank r) qs o o'
