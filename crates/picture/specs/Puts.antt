-- Spots that are put behind others while the row is looked at.
use Rattle.std.specs.Prelude.{◌≡◌, ℕ, ◌≤◌, true, List, [], ◌∷◌, ◌++◌, length}
use Rattle.words.specs.declared.Words.{Ghosts}
use Rattle.layout.specs.Cells.{Cell, base, free_of, layout}
use Rattle.layout.specs.Sound.{ends}
use Rattle.layout.specs.Marks.{marked_at}
use Rattle.store.specs.declared.manager.Manager.{Manager}
use Rattle.store.specs.Frame.{TouchesAtMost}
use Rattle.store.specs.Accesses.{Looks}
use Rattle.picture.specs.declared.spot.Spot.{Spot}
use Rattle.picture.specs.Spots.{cell_of}

-- these are put, and at most so many words touched
pub record Puts {W : Type 0} (w : Ghosts W)
    (n : ℕ) (these old new : List Spot) (m m' : Manager W) : Type 0 where
  pub spots : new ≡ old ++ these
  pub looks : Looks w m m'
  pub touches : TouchesAtMost n w m m'

-- the objects of a row, of which those that are reached are marked
abbrev pub marked_objects : List ℕ → List Cell → List Spot
marked_objects row [] = []
marked_objects row (c ∷ cs) = cell_of (marked_at row c.start) row c ++ marked_objects row cs

-- the objects end where the free words begin, within the row
pub record Ends (slots : ℕ) (row : List ℕ) : Type 0 where
  pub within : free_of row ≤ length row
  pub tiles : ends (layout slots row) (base slots) (free_of row) ≡ true
