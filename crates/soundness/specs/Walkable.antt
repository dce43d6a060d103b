-- A row that can be looked through, whatever stands in it.
use Rattle.std.specs.Prelude.{◌≡◌, ℕ, ◌+◌, ◌<◌, ◌≤◌, true, List, length}
use Rattle.words.specs.declared.Words.{Ghosts}
use Rattle.layout.specs.Map.{addresses, base, free_of, limit}
use Rattle.layout.specs.Cells.{Cell, layout}
use Rattle.layout.specs.Sound.{ends}
use Rattle.store.specs.declared.manager.Manager.{Manager}

-- it has the own words and the slots, addresses fit a reference word, and the free words begin within it
pub record Walkable (slots : ℕ) (row : List ℕ) (free : ℕ) : Type 0 where
  pub fits : base slots ≤ length row
  pub short : length row < addresses
  pub free_is : free ≡ free_of row
  pub within : free ≤ limit row

-- and the objects end where they begin
pub record Tiling (slots : ℕ) (row : List ℕ) (free : ℕ) : Type 0 where
  pub walkable : Walkable slots row free
  pub ends : ends (layout slots row) (base slots) free ≡ true

-- the same of a manager
abbrev pub IsWalkable : {W : Type 0} → ℕ → Ghosts W → Manager W → Type 0
IsWalkable free w m = Walkable m.slots (w.row m.words) free

abbrev pub IsTiled : {W : Type 0} → ℕ → Ghosts W → Manager W → Type 0
IsTiled free w m = Tiling m.slots (w.row m.words) free

-- the objects of a manager
abbrev pub objects : {W : Type 0} → Ghosts W → Manager W → List Cell
objects w m = layout m.slots (w.row m.words)

-- so many of its words may be touched
abbrev pub MayTouch : {W : Type 0} → ℕ → Ghosts W → Manager W → Type 0
MayTouch k w m = w.touched m.words + k ≤ 9223372036854775808
