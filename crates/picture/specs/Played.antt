-- A heap that stands for a world alike to the one after a script's calls.
use Rattle.std.specs.Prelude.{◌≡◌, ℕ, ◌+◌, ◌<◌, ◌≤◌, Bool, true, List, length}
use Rattle.mutator.specs.declared.Ask.{Ask}
use Rattle.world.specs.World.{blank, weight}
use Rattle.world.specs.Alike.{Alike}
use Rattle.heap.specs.Playing.{world_after}
use Rattle.world.specs.Room.{room}
use Rattle.layout.specs.Cells.{base, free_of, world_of}
use Rattle.layout.specs.Sound.{sound}
use Rattle.picture.specs.declared.playing.Unseen.{Unseen}
use Rattle.picture.specs.declared.playing.Unseen.TheVariants.{TooFewWords, NoMemory}
use Rattle.picture.specs.declared.spot.Spot.{Spot}
use Rattle.picture.specs.Spots.{spots}

-- no object is left but what is reached
abbrev pub Swept : ℕ → List ℕ → Type 0
Swept slots row = free_of row ≡ base slots + weight (world_of slots row)

-- the same of an alike world, in which nothing else is left if that is wanted
pub record Sweeps (wanted : Bool) (slots : ℕ) (row row' : List ℕ) : Type 0 where
  pub stays : sound slots row' ≡ true
  pub long : length row' ≡ length row
  pub alike : Alike (world_of slots row) (world_of slots row')
  pub swept : wanted ≡ true → Swept slots row'

-- what stands in a heap of n words when the calls are played from blank, and nothing else is left if that is wanted
pub record Shows (n slots : ℕ) (qs : List Ask) (wanted : Bool) (shown : List Spot) : Type 0 where
  pub row : List ℕ
  pub long : length row ≡ n
  pub fits : base slots ≤ n
  pub ok : sound slots row ≡ true
  pub alike : Alike (world_after (room n slots) (blank slots) qs) (world_of slots row)
  pub swept : wanted ≡ true → Swept slots row
  pub shown_is : shown ≡ spots slots row

-- why there is none: too few words to start, or no memory
abbrev pub Unshown : ℕ → ℕ → Unseen → Type 0
Unshown n slots TooFewWords = n < base slots
Unshown n slots NoMemory = Unit {0}
