-- The run of blanks, or of other bytes, at the front of a line, and the tokens that it is cut into.
use Rattle.std.proofs.Common.{◌≡◌, ℕ, zero, suc, ◌+◌, ◌<◌, ◌≤◌, Bool, true, false, eqb, List, [], ◌∷◌, ◌++◌, length, get_or, take, drop, IsUtf8, sym, refl, ap, ◌∙◌, subst, ⊎_elim, add-one, arith}
use mathlib.Core.Bool.{beq}
use Rattle.std.specs.Str.{IsCharBoundary}
use Rattle.std.proofs.lemmas.Bool.{eqb-true, or_cases, cases_lt}
use Rattle.std.proofs.lemmas.Str.{IsCharBoundary-start, IsCharBoundary-end, IsCharBoundary-before_ascii, IsCharBoundary-after_ascii}
use Rattle.script.specs.Tokens.{blank, pieces, filled, tokens, run}

-- a byte ends the run, or it is one more of it
pub ends : (b : Bool) (c : ℕ) (cs : List ℕ) → beq (blank c) b ≡ false → run b (c ∷ cs) ≡ 0
ends b c cs e = rw e refl

pub goes_on : (b : Bool) (c : ℕ) (cs : List ℕ) → beq (blank c) b ≡ true → run b (c ∷ cs) ≡ run b cs + 1
goes_on b c cs e = rw (e, add-one) refl

-- what a run says of the bytes in it and of the one behind it
within_at : (b : Bool) (c : ℕ) (cs : List ℕ) (t : Bool) → beq (blank c) b ≡ t → run b cs ≤ length cs → run b (c ∷ cs) ≤ length (c ∷ cs)
within_at b c cs true e h = rw e (omega arith)
within_at b c cs false e h = rw e (omega arith)

pub within : (b : Bool) (line : List ℕ) → run b line ≤ length line
within b [] = omega arith
within b (c ∷ cs) = within_at b c cs (beq (blank c) b) refl (within b cs)

abbrev Behind : Bool → List ℕ → Type 0
Behind b line = run b line < length line → beq (blank (get_or line (run b line) 0)) b ≡ false

behind_at : (b : Bool) (c : ℕ) (cs : List ℕ) (t : Bool) → beq (blank c) b ≡ t → Behind b cs → Behind b (c ∷ cs)
behind_at b c cs true e h = rw e (λ k. h (omega arith))
behind_at b c cs false e h = rw e (λ k. e)

behind : (b : Bool) (line : List ℕ) → Behind b line
behind b [] = λ k. absurd (omega arith)
behind b (c ∷ cs) = behind_at b c cs (beq (blank c) b) refl (behind b cs)

abbrev Inside : Bool → List ℕ → ℕ → Type 0
Inside b line k = k < run b line → beq (blank (get_or line k 0)) b ≡ true

inside_at : (b : Bool) (c : ℕ) (cs : List ℕ) (k : ℕ) (t : Bool) → beq (blank c) b ≡ t → ((j : ℕ) → Inside b cs j) → Inside b (c ∷ cs) k
inside_at b c cs zero true e h = λ l. e
inside_at b c cs (suc k) true e h = rw e (λ l. h k (omega arith))
inside_at b c cs zero false e h = rw e (λ l. absurd (omega arith))
inside_at b c cs (suc k) false e h = rw e (λ l. absurd (omega arith))

inside : (b : Bool) (line : List ℕ) (k : ℕ) → Inside b line k
inside b [] k = λ l. absurd (omega arith)
inside b (c ∷ cs) k = inside_at b c cs k (beq (blank c) b) refl (inside b cs)

-- a blank is ASCII, so a text may be cut before and after it
blank_ascii : (c : ℕ) → blank c ≡ true → c < 128
blank_ascii c e = ⊎_elim (λ h. omega (arith, eqb-true c 32 h)) (λ h. omega (arith, eqb-true c 9 h)) (or_cases (eqb c 32) (eqb c 9) e)

beq_true : (t : Bool) → beq t true ≡ true → t ≡ true
beq_true true e = refl
beq_true false e = e

beq_false : (t : Bool) → beq t false ≡ false → t ≡ true
beq_false true e = refl
beq_false false e = sym e

pub after_blanks : (line : List ℕ) (n : ℕ) → n ≡ run true line → IsUtf8 line → IsCharBoundary line n
after_blanks line zero e u = IsCharBoundary-start line u
after_blanks line (suc k) e u =
    let l : k < run true line = omega arith in
    let s : k < length line = omega (arith, within true line) in
    subst (IsCharBoundary line) (add-one k) (IsCharBoundary-after_ascii line k u s (blank_ascii _ (beq_true _ (inside true line k l))))

pub after_token : (line : List ℕ) (n : ℕ) → n ≡ run false line → IsCharBoundary line n
after_token line n e =
    ⊎_elim (λ h. subst (IsCharBoundary line) (sym e) (IsCharBoundary-before_ascii line (run false line) h (blank_ascii _ (beq_false _ (behind false line h)))))
    (λ h. let k : length line ≡ n = omega (arith, within false line) in subst (IsCharBoundary line) k (IsCharBoundary-end line))
    (cases_lt (run false line) (length line))

-- the first piece is the run before the first blank, and the others are those of what follows
abbrev FirstPiece : List ℕ → Type 0
FirstPiece line = (ps : List (List ℕ)) × (pieces line ≡ take (run false line) line ∷ ps) × (filled ps ≡ tokens (drop (run false line) line))

first_piece_at : (c : ℕ) (cs : List ℕ) (t : Bool) → blank c ≡ t → FirstPiece cs → FirstPiece (c ∷ cs)
first_piece_at c cs true b h = (pieces cs, rw b, simp b)
first_piece_at c cs false b h = (h.0, rw (b, h.1), rw b h.2)

first_piece : (line : List ℕ) → FirstPiece line
first_piece [] = ([], refl, refl)
first_piece (c ∷ cs) = first_piece_at c cs (blank c) refl (first_piece cs)

pub filled_some : (p : List ℕ) (ps : List (List ℕ)) → 0 < length p → filled (p ∷ ps) ≡ p ∷ filled ps
filled_some [] ps h = absurd (omega arith)
filled_some (c ∷ cs) ps h = refl

-- blanks in front do not matter, and where no byte is behind them the line has no token
skipped_at : (c : ℕ) (cs : List ℕ) (t : Bool) → blank c ≡ t → tokens (drop (run true cs) cs) ≡ tokens cs → tokens (drop (run true (c ∷ cs)) (c ∷ cs)) ≡ tokens (c ∷ cs)
skipped_at c cs true b h = simp b h
skipped_at c cs false b h = simp b

skipped : (line : List ℕ) → tokens (drop (run true line) line) ≡ tokens line
skipped [] = refl
skipped (c ∷ cs) = skipped_at c cs (blank c) refl (skipped cs)

abbrev Empties : List ℕ → Type 0
Empties line = run false (drop (run true line) line) ≡ 0 → tokens line ≡ []

empties_at : (c : ℕ) (cs : List ℕ) (t : Bool) → blank c ≡ t → Empties cs → Empties (c ∷ cs)
empties_at c cs true b h e = simp b (h (simp b at e))
empties_at c cs false b h e = let k : suc (run false cs) ≡ 0 = simp b at e in absurd (omega arith)

empties : (line : List ℕ) → Empties line
empties [] e = refl
empties (c ∷ cs) e = empties_at c cs (blank c) refl (empties cs) e

-- a line is cut into its first token and the others, and has none if that is empty
pub cut_some : (line front token rest : List ℕ) → front ≡ drop (run true line) line → token ≡ take (run false front) front → rest ≡ drop (run false front) front → 0 < length token → tokens line ≡ token ∷ tokens rest
cut_some line front token rest e t r h =
    let f = first_piece front in
    let k : 0 < length (take (run false front) front) = subst (λ (l : List ℕ). 0 < length l) t h in
    sym (skipped line) ∙ ap tokens (sym e) ∙ ap filled f.1 ∙ filled_some (take (run false front) front) f.0 k
    ∙ ap (λ (l : List (List ℕ)). take (run false front) front ∷ l) f.2 ∙ (λ i. sym t i ∷ tokens (sym r i))

pub cut_none : (line front : List ℕ) → front ≡ drop (run true line) line → run false front ≡ 0 → tokens line ≡ []
cut_none line front e h = empties line (ap (run false) (sym e) ∙ h)

-- bytes with no blank are one piece
abbrev pub Dense : List ℕ → Type 0
Dense w = (i : ℕ) → i < length w → blank (get_or w i 0) ≡ false

pub word_first : (w r : List ℕ) (ps : List (List ℕ)) → Dense w → pieces r ≡ [] ∷ ps → pieces (w ++ r) ≡ w ∷ ps
word_first [] r ps g e = e
word_first (c ∷ cs) r ps g e =
    let b : blank c ≡ false = g 0 (omega arith) in
    let h = word_first cs r ps (λ i l. g (suc i) (omega arith)) e in
    rw (b, h)
