-- Small rows: a sound one with its world, and one unsound for each reason there is.
use Rattle.std.specs.Prelude.{◌≡◌, ℕ, true, false, List, [], ◌∷◌, ◌++◌, replicate}
use Rattle.world.specs.World.{world}
use Rattle.layout.specs.Cells.{world_of}
use Rattle.layout.specs.Sound.{sound}

-- 74 words with two slots: at 66 an object with a place and a word, at 70 one with neither, and from 72 on free words. Left open
-- are the sentinels' headers, where the free words begin, what the first slot holds, the header of the first object and its place
abbrev pub sample : ℕ → ℕ → ℕ → ℕ → ℕ → ℕ → List ℕ
sample none root free slot header place = none ∷ 0 ∷ free ∷ (replicate 59 0
    ++ (root ∷ 0 ∷ slot ∷ 0 ∷ header ∷ 0 ∷ place ∷ 7 ∷ 0 ∷ 9 ∷ 5 ∷ 5 ∷ []))

pub record SoundRows : Type 0 where
  pub good : sound 2 (sample 4298899456 2 72 16896 65537 17920) ≡ true
  pub stands_for : world_of 2 (sample 4298899456 2 72 16896 65537 17920)
      ≡ world (1 ∷ 0 ∷ [])
      (record { refs = 2 ∷ []; words = 7 ∷ [] } ∷ record { refs = []; words = [] } ∷ [])
  pub none_unmarked : sound 2 (sample 3932160 2 72 16896 65537 17920) ≡ false
  pub root_of_three : sound 2 (sample 4298899456 3 72 16896 65537 17920) ≡ false
  pub past_the_end : sound 2 (sample 4298899456 2 79 16896 65537 17920) ≡ false
  pub object_cut : sound 2 (sample 4298899456 2 71 16896 65537 17920) ≡ false
  pub object_marked : sound 2 (sample 4298899456 2 72 16896 4295032833 17920) ≡ false
  pub object_of_a_kind : sound 2 (sample 4298899456 2 72 16896 562949953486849 17920) ≡ false
  pub slot_into_object : sound 2 (sample 4298899456 2 72 17152 65537 17920) ≡ false
  pub slot_tagged : sound 2 (sample 4298899456 2 72 16897 65537 17920) ≡ false
  pub place_into_free : sound 2 (sample 4298899456 2 72 16896 65537 18432) ≡ false
  pub place_tagged : sound 2 (sample 4298899456 2 72 16896 65537 1) ≡ false
