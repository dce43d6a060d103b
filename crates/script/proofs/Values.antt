-- What digits come to, as the standard parse says it, and that no token is empty.
use Rattle.std.proofs.Common.{◌≡◌, ℕ, ◌^◌, ◌<◌, Bool, true, false, leb, List, [], ◌∷◌, length, None, Option, Ok, Err, Result, sym, refl, ap, ◌&&◌, MatchOption, arith, rules}
use Rattle.std.specs.Option.{ok_or}
use Rattle.std.specs.Bool.{then_some}
use Rattle.std.specs.Result.{result_ok}
use Rattle.std.specs.List.{list_all}
use Rattle.std.specs.Char.{is_ascii_digit}
use Rattle.std.specs.Str.{all_ascii_digits}
use Rattle.std.specs.Str.Parse.{ParsesUnsigned}
use Rattle.std.proofs.lemmas.Bool.{lt-leb}
use Rattle.std.proofs.lemmas.Str.Parse.{IsNumeralModel, numerals_by_fold, parse_digits}
use Rattle.script.specs.Tokens.{filled}
use Rattle.script.specs.Numbers.{value, value_after, number}
use Rattle.script.specs.declared.error.LineError.{LineError}

pub own : IsNumeralModel (λ ds. all_ascii_digits ds ≡ true) (value_after 0)
own = numerals_by_fold _ (search rules) value_after (search rules)

pub first_filled : (ps : List (List ℕ)) (t : List ℕ) (ts : List (List ℕ)) → filled ps ≡ t ∷ ts → 0 < length t
first_filled [] t ts e = absurd (omega (arith, ap length e))
first_filled ([] ∷ ps) t ts e = first_filled ps t ts e
first_filled ((c ∷ p) ∷ ps) t ts e = let k : c ∷ p ≡ t = cc in omega (arith, ap length k)

pub all_digits : (ds : List ℕ) → list_all is_ascii_digit ds ≡ all_ascii_digits ds
all_digits [] = refl
all_digits (c ∷ cs) = ap (λ (t : Bool). is_ascii_digit c && t) (all_digits cs)

value_at : (m n : ℕ) (e : LineError) (t : List ℕ) (s : Bool) → all_ascii_digits t ≡ true → value t ≡ n → leb n m ≡ s → ok_or (then_some s n) e ≡ number m e t
value_at m n e t true d v l = rw (d, v, l)
value_at m n e t false d v l = rw (d, v, l)

-- what the parse gives, kept if it is at most m, is the number that the token writes
pub parsed : {E : Type 0} (m : ℕ) (e : LineError) (t : List ℕ) (r : Result ℕ E) (o : Option ℕ) (Q : ℕ → Bool → Type 0) → ParsesUnsigned 64 10 t r → all_ascii_digits t ≡ true → 0 < length t → m < 2 ^ 64 → MatchOption (result_ok r) (o ≡ None) (λ n. (b : Bool) × Q n b × (o ≡ then_some b n)) → ((n : ℕ) (b : Bool) → Q n b → b ≡ leb n m) → ok_or o e ≡ number m e t
parsed {E} m e t (Ok n) o Q p d l s h q =
    let k = parse_digits own {E = E} 64 t (Ok n) p d in
    rw (h.2, q n h.0 h.1) (value_at m n e t _ d (sym k.1) refl)
parsed {E} m e t (Err x) o Q p d l s h q =
    let k = parse_digits own {E = E} 64 t (Err x) p d in
    let w : value t < 2 ^ 64 → ⊥ = λ v. k (l, v) in
    let v : m < value t = omega arith in
    rw (h, d, lt-leb (value t) m v)
