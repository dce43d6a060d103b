-- Stamps: a number that every header has as its mark for a while, and what then answers to it.
use Rattle.std.specs.Prelude.{◌≡◌, ℕ, Bool, ◌&&◌, ◌||◌, List, [], ◌∷◌, ◌+◌, ◌==◌, nat_lt, slice_index, slice_set}
use Rattle.words.specs.Header.{mark_of, unpacked}
use Rattle.words.specs.Packing.{packed, with_mark}
use Rattle.words.specs.Kinds.{is_well_formed}
use Rattle.words.specs.Reference.{address_of, tag_of}
use Rattle.layout.specs.Map.{slots_at}
use Rattle.layout.specs.Cells.{Cell, layout, seg}
use Rattle.layout.specs.Sound.{all_of, reference_ok}
use Rattle.soundness.specs.Walkable.{Walkable}

-- a header's word with another mark, and the row with that mark in the headers of these objects
abbrev pub marked_word : ℕ → ℕ → ℕ
marked_word mark w = packed (with_mark (unpacked w) mark)

abbrev pub stamped : ℕ → List Cell → List ℕ → List ℕ
stamped mark [] row = row
stamped mark (c ∷ cs) row =
    stamped mark cs (slice_set row c.start (marked_word mark (slice_index row c.start)))

-- a reference that answers: none, or to a word before the free ones that has the mark; its tag is 0
abbrev pub answers : ℕ → List ℕ → ℕ → ℕ → Bool
answers free row mark w = tag_of w == 0 && (address_of w == 0
    || (nat_lt (address_of w) free && mark_of (slice_index row (address_of w)) == mark))

-- so do all places of an object, and all slots and places
abbrev pub object_answers : ℕ → List ℕ → ℕ → Cell → Bool
object_answers free row mark c = all_of (answers free row mark) (seg row (c.start + 2) c.places)

abbrev pub all_answer : ℕ → ℕ → List Cell → ℕ → List ℕ → Bool
all_answer slots free cs mark row =
    all_of (answers free row mark) (seg row slots_at slots)
    && all_of (object_answers free row mark) cs

-- the two halves of what is asked of an object: a well-formed header, and references in its places
abbrev pub header_ok : List ℕ → Cell → Bool
header_ok row c = is_well_formed (slice_index row c.start)

abbrev pub places_ok : List Cell → List ℕ → Cell → Bool
places_ok cs row c = all_of (reference_ok cs) (seg row (c.start + 2) c.places)

-- there are references in all slots and places
abbrev pub all_refer : ℕ → List Cell → List ℕ → Bool
all_refer slots cs row =
    all_of (reference_ok cs) (seg row slots_at slots) && all_of (places_ok cs row) cs

-- a row that differs in the marks of headers alone: without them it is as before
pub record DiffersInMarks (slots free : ℕ) (row row' : List ℕ) : Type 0 where
  pub walkable : Walkable slots row' free
  pub objects : layout slots row' ≡ layout slots row
  pub back : stamped 0 (layout slots row') row' ≡ row
