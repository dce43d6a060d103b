-- A line that spells something is no comment, so a script's line is read as what it spells.
use Rattle.std.proofs.Common.{◌≡◌, ℕ, Bool, true, false, cond, eqb, List, [], ◌∷◌, length, Some, None, Option, Ok, Err, Result, slice_index, sym, refl, ap, ◌∙◌, subst, arith}
use Rattle.std.proofs.lemmas.Bool.{eqb-true}
use Rattle.script.specs.declared.error.LineError.{LineError}
use Rattle.script.specs.Tokens.{onto_first, pieces, filled, tokens}
use Rattle.script.specs.Reading.{bind, body, passed_over}

-- a line that begins with `#` has a first token that does
hash_first : (ps : List (List ℕ)) (t : List ℕ) (ts : List (List ℕ)) → filled (onto_first 35 ps) ≡ t ∷ ts → slice_index t 0 ≡ 35
hash_first [] t ts e = let k : 35 ∷ [] ≡ t = cc in ap (λ (l : List ℕ). slice_index l 0) (sym k)
hash_first (p ∷ ps) t ts e = let k : 35 ∷ p ≡ t = cc in ap (λ (l : List ℕ). slice_index l 0) (sym k)

hash_body : (cs t : List ℕ) (ts : List (List ℕ)) → tokens (body (35 ∷ cs)) ≡ t ∷ ts → slice_index t 0 ≡ 35
hash_body [] t ts e = hash_first (pieces (body [])) t ts e
hash_body (d ∷ ds) t ts e = hash_first (pieces (body (d ∷ ds))) t ts e

pub met : (line t : List ℕ) (ts : List (List ℕ)) → tokens (body line) ≡ t ∷ ts → eqb (slice_index t 0) 35 ≡ false → passed_over line ≡ false
met [] t ts e d = absurd (omega (arith, ap length e))
met (c ∷ cs) t ts e d = by_test (eqb c 35) refl
  where
    by_test : (h : Bool) → eqb c 35 ≡ h → passed_over (c ∷ cs) ≡ false
    by_test true h =
        let first : slice_index t 0 ≡ 35 = hash_body cs t ts (subst (λ (x : ℕ). tokens (body (x ∷ cs)) ≡ t ∷ ts) (eqb-true c 35 h) e) in
        let o : true ≡ false = subst (λ (x : ℕ). eqb x 35 ≡ false) first d in
        absurd (omega (arith, ap {B = ℕ} (λ (b : Bool). cond b 1 0) o))
    by_test false h = rw (h, e) refl

-- what is not passed over is read as what stands in it
pub read_on : {A : Type 0} (line : List ℕ) (r : Result A LineError) (x : A) → passed_over line ≡ false → r ≡ Ok x → cond (passed_over line) (Ok None) (bind r (λ y. Ok (Some y))) ≡ Ok (Some x)
read_on line r x p e = rw (p, e) refl

-- and what is read stands in it
pub read_off : {A : Type 0} (line : List ℕ) (r : Result A LineError) (x : A) → cond (passed_over line) (Ok None) (bind r (λ y. Ok (Some y))) ≡ Ok (Some x) → r ≡ Ok x
read_off {A = A} line r x e = by_test (passed_over line) refl r refl
  where
    by_test : (t : Bool) → passed_over line ≡ t → (s : Result A LineError) → r ≡ s → r ≡ Ok x
    by_test true p s q = let z : ◌≡◌ {A = Result (Option A) LineError} (Ok None) (Ok (Some x)) = rw p at e in let o : ◌≡◌ {A = ℕ} 0 1 = cc in absurd (omega arith)
    by_test false p (Err f) q = let z : ◌≡◌ {A = Result (Option A) LineError} (Err f) (Ok (Some x)) = rw (p, q) at e in let o : ◌≡◌ {A = ℕ} 0 1 = cc in absurd (omega arith)
    by_test false p (Ok y) q = let z : ◌≡◌ {A = Result (Option A) LineError} (Ok (Some y)) (Ok (Some x)) = rw (p, q) at e in q ∙ (let k : y ≡ x = cc in ap Ok k)
