-- The places before this one lead where they should; the slot and the other object's place stay.
use Rattle.std.proofs.Common.{◌≡◌, ℕ, ◌+◌, ◌*◌, ◌<◌, length, slice_index}
use Rattle.marking_tests.specs.Rows.{turn}
use Rattle.marking_tests.proofs.rows.fan.Given as goal

abbrev pub invariant-loop-i : goal.invariant-loop-i
invariant-loop-i l = record {
  two : l.row.slots ≡ 2;
  long : length l.row.words.items ≡ 65608;
  held : slice_index l.row.words.items 65 ≡ 256 * 66;
  back : slice_index l.row.words.items 65605 ≡ 256 * 66;
  turns : (k : ℕ) → k < l.i → slice_index l.row.words.items (68 + k) ≡ 256 * turn k;
  wide : l.wide ≡ 66;
  other : l.other ≡ 65603;
}
