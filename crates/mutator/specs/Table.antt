-- The table of calls: a line for each. What reads, prints, counts or sorts calls goes over it.
use Rattle.std.specs.Prelude.{ℕ, zero, suc, ◌+◌, cond, List, [], ◌∷◌, codes, Some, None, Ok, Err, Option, Result}
use Rattle.std.specs.Str.{bytes_eq}
use Rattle.mutator.specs.declared.Ask.{Ask}
use Rattle.mutator.specs.declared.Ask.TheVariants.{New, Get, Set, Read, Write, Copy, Clear, Same, Sizes, Collect}
use Rattle.mutator.specs.declared.refusal.Refusal.{Refusal}
use Rattle.mutator.specs.declared.refusal.Refusal.TheVariants.{Full, Nothing}
use Rattle.mutator.specs.declared.number.Number.{Number}
use Rattle.mutator.specs.declared.number.Number.TheVariants.{Slot, Place, WordIndex, Size, Value}
use Rattle.mutator.specs.Numbers.{value, index, at}

-- a call's name and its numbers; the words that it asks for; and what comes of it where there is no room and each of its
-- slots is there and empty
pub record Entry : Type 0 where
  pub name : List ℕ
  pub numbers : List Number
  pub asks : ℕ
  pub empty : Result ℕ Refusal

abbrev pub call : List ℕ → List Number → ℕ → Result ℕ Refusal → Entry
call n ns k r = record { name = n; numbers = ns; asks = k; empty = r }

abbrev pub entry : Ask → Entry
-- 0 1 2: an object with r places and n words, in slot s. Full exactly if the world's weight and `2 + r + n` are more than the room; then nothing has changed that the mutator can tell. What stood in s counts, too. It may collect
entry (New s r n) = call (codes "New") (Slot s ∷ Size r ∷ Size n ∷ []) (2 + (r + n)) (Err Full)
-- 1 2 3 4: slot t becomes place i of the object in s
entry (Get t s i) = call (codes "Get") (Slot t ∷ Slot s ∷ Place i ∷ []) 0 (Err Nothing)
-- 1 2 3 4: place i of the object in s becomes what is in t, which may be empty
entry (Set s i t) = call (codes "Set") (Slot s ∷ Place i ∷ Slot t ∷ []) 0 (Err Nothing)
-- 1 2 3 4: the number is word i of the object in s
entry (Read s i) = call (codes "Read") (Slot s ∷ WordIndex i ∷ []) 0 (Err Nothing)
-- 1 2 3 4: word i of the object in s becomes x
entry (Write s i x) = call (codes "Write") (Slot s ∷ WordIndex i ∷ Value x ∷ []) 0 (Err Nothing)
-- 1 2: slot t becomes what is in s
entry (Copy t s) = call (codes "Copy") (Slot t ∷ Slot s ∷ []) 0 (Ok 0)
-- 1 2: slot t becomes empty
entry (Clear t) = call (codes "Clear") (Slot t ∷ []) 0 (Ok 0)
-- 1 2: the number is 1 if both hold the same object or both none, else 0
entry (Same s t) = call (codes "Same") (Slot s ∷ Slot t ∷ []) 0 (Ok 1)
-- 1 2 3: the number is 65,536 times the places, and the words, of the object in s
entry (Sizes s) = call (codes "Sizes") (Slot s ∷ []) 0 (Err Nothing)
-- 1: what is not reached is taken back; nothing that the mutator can tell
entry Collect = call (codes "Collect") [] 0 (Ok 0)

-- the calls in order, each made of its numbers
abbrev pub calls : List (List Number → Ask)
calls =
    (λ ns. New (index (at ns 0)) (index (at ns 1)) (index (at ns 2)))
    ∷ (λ ns. Get (index (at ns 0)) (index (at ns 1)) (index (at ns 2)))
    ∷ (λ ns. Set (index (at ns 0)) (index (at ns 1)) (index (at ns 2)))
    ∷ (λ ns. Read (index (at ns 0)) (index (at ns 1)))
    ∷ (λ ns. Write (index (at ns 0)) (index (at ns 1)) (value (at ns 2)))
    ∷ (λ ns. Copy (index (at ns 0)) (index (at ns 1)))
    ∷ (λ ns. Clear (index (at ns 0)))
    ∷ (λ ns. Same (index (at ns 0)) (index (at ns 1)))
    ∷ (λ ns. Sizes (index (at ns 0)))
    ∷ (λ ns. Collect)
    ∷ []

-- the one of a name
abbrev pub name : Ask → List ℕ
name q = (entry q).name

abbrev pub numbers : Ask → List Number
numbers q = (entry q).numbers

abbrev pub named : List ℕ → List (List Number → Ask) → Option (List Number → Ask)
named n [] = None
named n (f ∷ fs) = cond (bytes_eq n (name (f []))) (Some f) (named n fs)

-- the one at a place
abbrev pub call_at : List (List Number → Ask) → ℕ → List Number → Option Ask
call_at [] p ns = None
call_at (f ∷ fs) zero ns = Some (f ns)
call_at (f ∷ fs) (suc p) ns = call_at fs p ns
