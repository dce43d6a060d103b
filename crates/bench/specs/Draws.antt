-- Numbers as if at random.
use Rattle.std.specs.Prelude.{ℕ, ◌+◌, ◌*◌, ◌/◌, ◌%◌, ◌^◌, max}

-- the number behind another
abbrev pub next_of : ℕ → ℕ
next_of x = (6364136223846793005 * x + 1442695040888963407) % 2 ^ 64

-- one of n, from the upper half of a number
abbrev pub drawn : ℕ → ℕ → ℕ
drawn x n = x / 2 ^ 32 % max n 1
