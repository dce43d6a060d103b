-- How many words are touched.
use Rattle.std.specs.Prelude.{ℕ, ◌+◌, ◌-◌, ◌*◌, ◌/◌, List, [], ◌∷◌, length}
use Rattle.layout.specs.Map.{base}
use Rattle.layout.specs.Cells.{Cell}

-- how many places objects have
abbrev pub places_in : List Cell → ℕ
places_in [] = 0
places_in (c ∷ cs) = c.places + places_in cs

-- for one stamp, all slots and all places: two words a header and two a reference, and each header once more
abbrev pub answer_cost : ℕ → List Cell → ℕ
answer_cost slots cs = 3 * length cs + 2 * (slots + places_in cs)

-- for the verdict on so many words: three, four a slot, and nine for two words behind the slots, as many as an object takes
-- that holds nothing
abbrev pub verdict_cost : ℕ → ℕ → ℕ
verdict_cost slots count = 3 + (4 * slots + (9 * (count - base slots)) / 2)
