-- What of the words lent can hold objects.
use Rattle.std.specs.Prelude.{ℕ, ◌+◌, ◌-◌}

-- of n words with r slots: 64 are the manager's own, and each slot takes one
abbrev pub room : ℕ → ℕ → ℕ
room n r = n - (64 + r)
