-- So many objects were made, each of which leads to the next; the last one does not yet.
use Rattle.std.proofs.Common.{◌≡◌, ℕ, ◌+◌, ◌*◌, ◌^◌, ◌<◌, length}
use Rattle.marking_tests.specs.Rows.{To}
use Rattle.marking_tests.proofs.rows.chain.Given as goal

abbrev pub invariant-loop : goal.invariant-loop
invariant-loop l = record {
  one : l.row.slots ≡ 1;
  long : length l.row.words.items ≡ 65 + 3 * l.counter;
  at : l.at + 3 ≡ 65 + 3 * l.counter;
  held : To l.row.words.items 64 65;
  links : l.fn.count < 2 ^ 32 → (k : ℕ) → k + 1 < l.counter → To l.row.words.items (67 + 3 * k) (68 + 3 * k);
  end : To l.row.words.items (l.at + 2) 0;
}
