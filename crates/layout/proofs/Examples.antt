-- The small rows, tested by the definitions.
use Rattle.std.proofs.Common.{refl}
use Rattle.layout.specs.Cells.{layout, world_of}
use Rattle.layout.specs.Sound.{sound}
use Rattle.layout.specs.Examples.{SoundRows}

pub sound_rows : SoundRows
unfolding sound layout world_of
sound_rows = record {
  good = refl;
  stands_for = refl;
  none_unmarked = refl;
  root_of_three = refl;
  past_the_end = refl;
  object_cut = refl;
  object_marked = refl;
  object_of_a_kind = refl;
  slot_into_object = refl;
  slot_tagged = refl;
  place_into_free = refl;
  place_tagged = refl;
}
