-- The objects are made; then the places before this one lead where they should.
use Rattle.std.proofs.Common.{◌≡◌, ℕ, ◌+◌, ◌*◌, ◌<◌, length}
use Rattle.marking_tests.specs.Rows.{To}
use Rattle.marking_tests.proofs.rows.complete.Given as goal

abbrev pub invariant-loop : goal.invariant-loop
invariant-loop l = record {
  one : l.row.slots ≡ 1;
  long : length l.row.words.items ≡ 65 + l.counter * (2 + l.count);
}

abbrev pub invariant-loop-i : goal.invariant-loop-i
invariant-loop-i l = record {
  one : l.row.slots ≡ 1;
  long : length l.row.words.items ≡ 65 + l.count * (2 + l.count);
  held : To l.row.words.items 64 65;
  links : (a b : ℕ) → a < l.i → b < l.count → To l.row.words.items (67 + (a * (2 + l.count) + b)) (65 + b * (2 + l.count));
}

abbrev pub invariant-loop-j : goal.invariant-loop-j
invariant-loop-j l = record {
  one : l.row.slots ≡ 1;
  long : length l.row.words.items ≡ 65 + l.count * (2 + l.count);
  held : To l.row.words.items 64 65;
  links : (a b : ℕ) → a < l.i → b < l.count → To l.row.words.items (67 + (a * (2 + l.count) + b)) (65 + b * (2 + l.count));
  here : (b : ℕ) → b < l.j → To l.row.words.items (67 + (l.i * (2 + l.count) + b)) (65 + b * (2 + l.count));
}
