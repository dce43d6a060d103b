-- Tallies of touches; a count stops at the largest number of 64 bits.
use Rattle.std.specs.Prelude.{ℕ, ◌+◌, ◌-◌, ◌^◌, min, max, cond, List, [], ◌∷◌}
use Rattle.std.specs.Str.{bytes_eq}
use Rattle.mutator.specs.declared.Ask.{Ask}
use Rattle.mutator.specs.Table.{name}
use Rattle.bench.specs.declared.tally.Tally.{Tally}

abbrev pub none : Tally
none = record { calls = 0; total = 0; worst = 0 }

-- one call more, which touched so many words
abbrev pub and_one : Tally → ℕ → Tally
and_one t n =
    record {
      calls = min (t.calls + 1) (2 ^ 64 - 1);
      total = min (t.total + n) (2 ^ 64 - 1);
      worst = max t.worst n;
    }

-- and of a script's calls, those of one name
abbrev pub of_kind : List ℕ → Tally → List Ask → List ℕ → Tally
of_kind k t [] ns = t
of_kind k t (q ∷ qs) [] = t
of_kind k t (q ∷ qs) (n ∷ ns) = of_kind k (cond (bytes_eq (name q) k) (and_one t n) t) qs ns
