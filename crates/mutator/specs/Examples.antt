-- Worked scripts and their answers, with five slots and 31 words for objects.
use Rattle.std.specs.Prelude.{◌≡◌, ℕ, zero, suc, List, [], ◌∷◌}
use Rattle.mutator.specs.declared.Ask.{Ask}
use Rattle.mutator.specs.declared.Ask.TheVariants.{New, Get, Set, Read, Write, Copy, Clear, Same, Sizes, Collect}
use Rattle.world.specs.World.{blank}
use Rattle.mutator.specs.Script.{Answer, told, answers}
use Rattle.world.specs.Room.{room}

-- 31 words are full to the last: an object that a place holds still counts when its slot is cleared, and no longer when its holder is
abbrev pub full_to_the_last_word : List Ask
full_to_the_last_word =
    (New 0 2 1) ∷ (New 1 0 10) ∷ (Set 0 0 1) ∷ (New 2 0 12) ∷ (New 3 0 0) ∷ (Clear 1) ∷ (New 3 0 0)
    ∷ (Clear 0) ∷ (New 3 0 13) ∷ (Sizes 3) ∷ []

-- an object that holds itself: what its place gives is the same object
abbrev pub holds_itself : List Ask
holds_itself = (New 0 1 0) ∷ (Set 0 0 0) ∷ (Copy 1 0) ∷ (Clear 0) ∷ (Get 0 1 0) ∷ (Same 0 1) ∷ []

-- nothing in a slot, no such slot, no such word; and a word is as it was after a collection
abbrev pub refusals_and_a_word : List Ask
refusals_and_a_word =
    (Read 4 0) ∷ (Read 5 0) ∷ (New 0 0 1) ∷ (Read 0 1) ∷ (Write 0 0 7) ∷ Collect ∷ (Read 0 0) ∷ []

-- a chain of ten objects, each holding the one before; a collection keeps it, and the way along it ends with nothing in the slot
abbrev pub link : List Ask → List Ask
link qs = (New 0 1 0) ∷ (Set 0 0 1) ∷ (Copy 1 0) ∷ qs

abbrev pub chain_of_ten : List Ask
chain_of_ten =
    (New 0 1 0) ∷ (Copy 1 0) ∷ link (link (link (link (link (link (link (link (
    (New 0 1 0) ∷ (Set 0 0 1) ∷ (Clear 1) ∷ Collect
    ∷ (Get 0 0 0) ∷ (Get 0 0 0) ∷ (Get 0 0 0) ∷ (Get 0 0 0) ∷ (Get 0 0 0) ∷ (Get 0 0 0)
    ∷ (Get 0 0 0) ∷ (Get 0 0 0) ∷ (Get 0 0 0) ∷ (Get 0 0 0) ∷ (Get 0 0 0) ∷ []))))))))

-- an object that holds itself three times, in no slot any more, leaves all 31 words to the next
abbrev pub cycle_is_gone : List Ask
cycle_is_gone =
    (New 0 3 0) ∷ (Set 0 0 0) ∷ (Set 0 1 0) ∷ (Set 0 2 0) ∷ (Clear 0) ∷ (New 0 0 29) ∷ []

-- so many calls that are done and say nothing
abbrev pub done : ℕ → List Answer → List Answer
done zero as₁ = as₁
done (suc n) as₁ = told 1 0 ∷ done n as₁

pub record WorkedScripts : Type 0 where
  pub lent : room 100 5 ≡ 31
  pub full : answers 31 (blank 5) full_to_the_last_word
      ≡ done 4 (told 0 0 ∷ told 1 0 ∷ told 0 0 ∷ told 1 0 ∷ told 1 0 ∷ told 1 13 ∷ [])
  pub itself : answers 31 (blank 5) holds_itself ≡ done 5 (told 1 1 ∷ [])
  pub refused : answers 31 (blank 5) refusals_and_a_word
      ≡ told 3 0 ∷ told 2 0 ∷ told 1 0 ∷ told 4 0 ∷ told 1 0 ∷ told 1 0 ∷ told 1 7 ∷ []
  pub chain : answers 31 (blank 5) chain_of_ten ≡ done 40 (told 3 0 ∷ [])
  pub cycle : answers 31 (blank 5) cycle_is_gone ≡ done 6 []
