-- The tally of the calls of one kind: calls of another are passed over.
use Rattle.std.proofs.Common.{◌≡◌, ℕ, Bool, true, false, cond, List, [], ◌∷◌, fold, refl}
use Rattle.std.specs.List.{filter, zip}
use Rattle.std.specs.Str.{bytes_eq}
use Rattle.mutator.specs.declared.Ask.{Ask}
use Rattle.mutator.specs.Table.{name}
use Rattle.bench.specs.Tallies.{and_one, of_kind}
use Rattle.bench.specs.declared.tally.Tally.{Tally}

-- the touches of the calls of the kind, one by one
abbrev chosen : List ℕ → List Ask → List ℕ → List (Ask × ℕ)
chosen k qs ns = filter (λ p. bytes_eq (name p.0) k) (zip qs ns)

abbrev summed : Tally → List (Ask × ℕ) → Tally
summed t ps = fold (λ u p. and_one u p.1) t ps

pub of_kind_filter : (k : List ℕ) (t : Tally) (qs : List Ask) (ns : List ℕ) → summed t (chosen k qs ns) ≡ of_kind k t qs ns
of_kind_filter k t [] ns = refl
of_kind_filter k t (q ∷ qs) [] = refl
of_kind_filter k t (q ∷ qs) (n ∷ ns) =
    by_test (bytes_eq (name q) k) (λ u. of_kind_filter k u qs ns)
  where
    by_test : (b : Bool) → ((u : Tally) → summed u (chosen k qs ns) ≡ of_kind k u qs ns) → summed t (cond b ((q, n) ∷ chosen k qs ns) (chosen k qs ns)) ≡ of_kind k (cond b (and_one t n) t) qs ns
    by_test true ih = ih (and_one t n)
    by_test false ih = ih t
