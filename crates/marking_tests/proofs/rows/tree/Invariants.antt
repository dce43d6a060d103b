-- So many objects were made; each but the first was led to.
use Rattle.std.proofs.Common.{◌≡◌, ℕ, ◌+◌, ◌*◌, ◌/◌, ◌%◌, ◌^◌, ◌<◌, ◌≤◌, length}
use Rattle.marking_tests.specs.Rows.{To}
use Rattle.marking_tests.proofs.rows.tree.Given as goal

abbrev pub invariant-loop-i : goal.invariant-loop-i
invariant-loop-i l = record {
  one : l.row.slots ≡ 1;
  long : length l.row.words.items ≡ 65 + 4 * l.i;
  first : l.first ≡ 65;
  held : l.count < 2 ^ 32 → To l.row.words.items 64 65;
  links : l.count < 2 ^ 32 → (k : ℕ) → k + 1 < l.i → To l.row.words.items (67 + (4 * (k / 2) + k % 2)) (69 + 4 * k);
  leaves : l.count < 2 ^ 32 → (k : ℕ) → l.i ≤ k + 1 → k < 2 * l.i → To l.row.words.items (67 + (4 * (k / 2) + k % 2)) 0;
}
