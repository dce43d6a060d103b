-- How many words the calls of a script may touch.
use Rattle.std.specs.Prelude.{ℕ, ◌+◌, ◌*◌, ◌≤◌, List, slice_index}

-- each at most nine times as many words as there are, and six
abbrev pub Bounded : ℕ → List ℕ → Type 0
Bounded n ts = (k : ℕ) → slice_index ts k ≤ 9 * n + 6
