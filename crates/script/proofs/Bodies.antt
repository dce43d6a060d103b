-- A line without the carriage return that may end it.
use Rattle.std.proofs.Common.{◌≡◌, ℕ, Bool, true, false, eqb, List, [], ◌∷◌, ◌++◌, Some, None, Option, sym, refl, ap, ◌∙◌, Bor, MatchOption}
use Rattle.std.proofs.lemmas.Bool.{eqb-true}
use Rattle.std.specs.Option.{unwrap_or}
use Rattle.script.specs.Reading.{body}

body_return : (xs : List ℕ) → body (xs ++ (13 ∷ [])) ≡ xs
body_return [] = refl
body_return (c ∷ []) = refl
body_return (c ∷ d ∷ ds) = ap (λ (l : List ℕ). c ∷ l) (body_return (d ∷ ds))

body_one : (c : ℕ) (t : Bool) → eqb c 13 ≡ t → (c ≡ 13 → ⊥) → body (c ∷ []) ≡ c ∷ []
body_one c true e h = absurd (h (eqb-true c 13 e))
body_one c false e h = rw e

body_same : (bs : List ℕ) → ((front : List ℕ) → bs ≡ front ++ (13 ∷ []) → ⊥) → body bs ≡ bs
body_same [] h = refl
body_same (c ∷ []) h = body_one c (eqb c 13) refl (λ e. h [] (ap (λ (n : ℕ). n ∷ []) e))
body_same (c ∷ d ∷ ds) h = ap (λ (l : List ℕ). c ∷ l) (body_same (d ∷ ds) (λ front e. h (c ∷ front) (ap (λ (l : List ℕ). c ∷ l) e)))

pub body_stripped : (s : List ℕ) (o : Option (Bor (List ℕ))) (d : Bor (List ℕ)) → MatchOption o ((front : List ℕ) → s ≡ front ++ (13 ∷ []) → ⊥) (λ x. s ≡ x.now ++ (13 ∷ [])) → d.now ≡ s → (unwrap_or o d).now ≡ body s
body_stripped s None d h e = e ∙ sym (body_same s h)
body_stripped s (Some x) d h e = sym (ap body h ∙ body_return x.now)
