-- What stands at each word of a row behind the manager's own.
use Rattle.std.specs.Prelude.{ℕ, suc, ◌+◌, ◌-◌, Bool, List, [], ◌∷◌, ◌++◌, map, length, replicate, if◌then◌else◌}
use Rattle.words.specs.Reference.{address_of}
use Rattle.words.specs.Packing.{target_at}
use Rattle.world.specs.Base.{has}
use Rattle.world.specs.World.{reached}
use Rattle.layout.specs.Cells.{Cell, free_of, layout, seg, world_of}
use Rattle.picture.specs.declared.spot.Part.{Part}
use Rattle.picture.specs.declared.spot.Part.TheVariants.{Header, Second, Place, Word}
use Rattle.picture.specs.declared.spot.Spot.{Spot}
use Rattle.picture.specs.declared.spot.Spot.TheVariants.{Slot, Reached, Dead, Free}

-- a word of an object that is reached, or that is not
abbrev pub spot_of : Bool → Part → Spot
spot_of live part = if live then Reached part else Dead part

-- the slots
abbrev pub slot_of : ℕ → Spot
slot_of word = Slot (target_at (address_of word))

abbrev pub slots_of : ℕ → List ℕ → List Spot
slots_of slots row = map slot_of (seg row 64 slots)

-- an object's places and words, and all of it
abbrev pub place_of : Bool → ℕ → Spot
place_of live word = spot_of live (Place (target_at (address_of word)))

abbrev pub word_of : Bool → ℕ → Spot
word_of live word = spot_of live (Word word)

abbrev pub cell_of : Bool → List ℕ → Cell → List Spot
cell_of live row c =
    spot_of live Header ∷ spot_of live Second
    ∷ map (place_of live) (seg row (c.start + 2) c.places)
    ++ map (word_of live) (seg row (c.start + 2 + c.places) c.count)

-- the objects, where so many come before, and those with these numbers are reached
abbrev pub objects_of : ℕ → List ℕ → List ℕ → List Cell → List Spot
objects_of k live row [] = []
objects_of k live row (c ∷ cs) = cell_of (has (suc k) live) row c ++ objects_of (suc k) live row cs

abbrev pub free_words : List ℕ → List Spot
free_words row = replicate (length row - free_of row) Free

-- the slots, the objects in order, and the free words
abbrev pub spots : ℕ → List ℕ → List Spot
spots slots row =
    slots_of slots row ++ objects_of 0 (reached (world_of slots row)) row (layout slots row)
    ++ free_words row
