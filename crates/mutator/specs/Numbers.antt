-- The numbers of a call: what each is of, and the most that it may be.
use Rattle.std.specs.Prelude.{ℕ, ◌-◌, ◌^◌, List, slice_index_or}
use Rattle.mutator.specs.declared.number.Number.{Number}
use Rattle.mutator.specs.declared.number.Number.TheVariants.{Slot, Place, WordIndex, Size, Value}

abbrev pub value : Number → ℕ
value (Slot n) = n
value (Place n) = n
value (WordIndex n) = n
value (Size n) = n
value (Value n) = n

-- the most that one of its kind may be
abbrev pub most : Number → ℕ
most (Slot n) = 65535
most (Place n) = 65535
most (WordIndex n) = 65535
most (Size n) = 65535
most (Value n) = 2 ^ 64 - 1

-- another of its kind
abbrev pub like : Number → ℕ → Number
like (Slot m) n = Slot n
like (Place m) n = Place n
like (WordIndex m) n = WordIndex n
like (Size m) n = Size n
like (Value m) n = Value n

-- all but what a word shall hold are below 65,536
abbrev pub index : Number → ℕ
index (Slot n) = n
index (Place n) = n
index (WordIndex n) = n
index (Size n) = n
index (Value n) = 0

-- what stands at a place of a list
abbrev pub at : List Number → ℕ → Number
at ns i = slice_index_or ns i (Value 0)
