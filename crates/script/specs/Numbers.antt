-- A number in decimal: digits and nothing else, leading zeros allowed.
use Rattle.std.specs.Prelude.{ℕ, ◌+◌, ◌-◌, ◌*◌, cond, List, [], ◌∷◌, Ok, Err, Result, nat_le}
use Rattle.std.specs.Str.{all_ascii_digits}
use Rattle.script.specs.declared.error.LineError.{LineError}
use Rattle.script.specs.declared.error.LineError.TheVariants.{NotANumber}

abbrev pub value_after : ℕ → List ℕ → ℕ
value_after n [] = n
value_after n (c ∷ cs) = value_after (10 * n + (c - 48)) cs

abbrev pub value : List ℕ → ℕ
value ds = value_after 0 ds

-- the number that a token writes, if it is at most `most`
abbrev pub number : ℕ → LineError → List ℕ → Result ℕ LineError
number most over t =
    cond (all_ascii_digits t) (cond (nat_le (value t) most) (Ok (value t)) (Err over))
    (Err NotANumber)
