-- Each call is in the table: found by its name, and made again of its numbers.
use Rattle.std.proofs.Common.{◌≡◌, ℕ, ◌^◌, ◌<◌, List, [], ◌∷◌, ◌++◌, refl, arith}
use Rattle.mutator.specs.declared.Ask.{Ask}
use Rattle.mutator.specs.declared.Ask.TheVariants.{New, Get, Set, Read, Write, Copy, Clear, Same, Sizes, Collect}
use Rattle.mutator.specs.declared.number.Number.{Number}
use Rattle.mutator.specs.declared.number.Number.TheVariants.{Slot, Place, WordIndex, Size, Value}
use Rattle.mutator.specs.Numbers.{value, most, like}
use Rattle.mutator.specs.Table.{name, numbers, calls}
use Rattle.mutator.specs.TableLaws.{Found}

pub found : (q : Ask) → Found q
found (New s r n) = record { make = _; is = refl; kinds = refl; again = refl }
found (Get t s i) = record { make = _; is = refl; kinds = refl; again = refl }
found (Set s i t) = record { make = _; is = refl; kinds = refl; again = refl }
found (Read s i) = record { make = _; is = refl; kinds = refl; again = refl }
found (Write s i x) = record { make = _; is = refl; kinds = refl; again = refl }
found (Copy t s) = record { make = _; is = refl; kinds = refl; again = refl }
found (Clear t) = record { make = _; is = refl; kinds = refl; again = refl }
found (Same s t) = record { make = _; is = refl; kinds = refl; again = refl }
found (Sizes s) = record { make = _; is = refl; kinds = refl; again = refl }
found Collect = record { make = _; is = refl; kinds = refl; again = refl }

-- of any numbers of its kinds a call has those numbers, and the name that it has of none
abbrev pub Made : (List Number → Ask) → List Number → List Number → Type 0
Made f [] front = (numbers (f front) ≡ front) × (name (f front) ≡ name (f []))
Made f (k ∷ ks) front = (n : ℕ) → Made f ks (front ++ like k n ∷ [])

abbrev pub AllMade : List (List Number → Ask) → Type 0
AllMade [] = Unit {0}
AllMade (f ∷ fs) = Made f (numbers (f [])) [] × AllMade fs

-- a number like another has its own value, and the bound of the other
pub like_value : (k : Number) (n : ℕ) → value (like k n) ≡ n
like_value (Slot m) n = refl
like_value (Place m) n = refl
like_value (WordIndex m) n = refl
like_value (Size m) n = refl
like_value (Value m) n = refl

pub like_most : (k : Number) (n : ℕ) → most (like k n) ≡ most k
like_most (Slot m) n = refl
like_most (Place m) n = refl
like_most (WordIndex m) n = refl
like_most (Size m) n = refl
like_most (Value m) n = refl

pub most_small : (k : Number) → most k < 2 ^ 64
most_small (Slot m) = omega arith
most_small (Place m) = omega arith
most_small (WordIndex m) = omega arith
most_small (Size m) = omega arith
most_small (Value m) = omega arith

infixr 5 ◌and◌
◌and◌ : {A B : Type 0} → A → B → A × B
(a and b) = (a, b)

pub all_made : AllMade calls
all_made =
    (λ s r n. (refl, refl))
    and (λ t s i. (refl, refl))
    and (λ s i t. (refl, refl))
    and (λ s i. (refl, refl))
    and (λ s i x. (refl, refl))
    and (λ t s. (refl, refl))
    and (λ t. (refl, refl))
    and (λ s t. (refl, refl))
    and (λ s. (refl, refl))
    and (refl, refl)
    and tt
