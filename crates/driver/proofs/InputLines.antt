-- The lines of known bytes: the first, and those behind it.
use Rattle.std.proofs.Common.{◌≡◌, ℕ, zero, suc, ◌<◌, ◌≤◌, Bool, true, false, List, [], ◌∷◌, ◌++◌, length, take, Some, None, IfOk, IfSome, Option, Result, sym, refl, ap, ◌∙◌, subst, arith, append_assoc, append-nil}
use Rattle.std.specs.Prelude.{if◌then◌else◌, ◌==◌}
use Rattle.std.proofs.Math.Seq.{take-append_seam}
use Rattle.std.specs.Io.BufRead.{first_line, drop_through, DropsThrough}
use Rattle.std.specs.Io.KnownBytes.{IsAtEnd}
use Rattle.driver.specs.declared.fault.Fault.{Fault}
use Rattle.std.specs.Prelude.{Ok, Err}
use Rattle.driver.specs.Reading.{lines_up_to, all_lines, AreLinesOf}

if_short : (b : Bool) (xs ys : List ℕ) (n : ℕ) → length xs ≤ n → length ys ≤ n → length (if b then xs else ys) ≤ n
if_short true xs ys n p q = p
if_short false xs ys n p q = q

drop_shorter : (xs : List ℕ) → length (drop_through 10 xs) ≤ length xs
drop_shorter [] = omega arith
drop_shorter (x ∷ xs) = if_short (x == 10) xs (drop_through 10 xs) (suc (length xs)) (omega arith) (omega (arith, drop_shorter xs))

drop_behind : (x : ℕ) (xs : List ℕ) → length (drop_through 10 (x ∷ xs)) ≤ length xs
drop_behind x xs = if_short (x == 10) xs (drop_through 10 xs) (length xs) (omega arith) (drop_shorter xs)

-- it is enough to count as many lines as there are bytes
counts_same : (k j : ℕ) (bs : List ℕ) → length bs ≤ k → length bs ≤ j → lines_up_to k bs ≡ lines_up_to j bs
counts_same zero zero bs p q = refl
counts_same zero (suc j) [] p q = refl
counts_same zero (suc j) (b ∷ bs) p q = absurd (omega (arith, p))
counts_same (suc k) zero [] p q = refl
counts_same (suc k) zero (b ∷ bs) p q = absurd (omega (arith, q))
counts_same (suc k) (suc j) [] p q = refl
counts_same (suc k) (suc j) (b ∷ bs) p q =
    ap (λ v. first_line (b ∷ bs) ∷ v) (counts_same k j (drop_through 10 (b ∷ bs)) (omega (arith, p, drop_behind b bs)) (omega (arith, q, drop_behind b bs)))

line_first : (bs : List ℕ) → 0 < length bs → all_lines bs ≡ first_line bs ∷ all_lines (drop_through 10 bs)
line_first [] p = absurd (omega (arith, p))
line_first (b ∷ bs) p =
    ap (λ v. first_line (b ∷ bs) ∷ v) (counts_same (length bs) (length (drop_through 10 (b ∷ bs))) (drop_through 10 (b ∷ bs)) (drop_behind b bs) (omega arith))

-- behind these lines the input has these bytes left
abbrev pub Left : List (List ℕ) → List ℕ → Option (List ℕ) → Type 0
Left lines bs None = ⊥
Left lines bs (Some xs) = all_lines bs ≡ lines ++ all_lines xs

abbrev pub Leaves : Option (List ℕ) → List (List ℕ) → Option (List ℕ) → Type 0
Leaves bytes lines now = IfSome bytes (λ bs. Left lines bs now)

pub leaves_none : (bytes : Option (List ℕ)) → Leaves bytes [] bytes
leaves_none None = tt
leaves_none (Some bs) = refl

pub leaves_next : (bytes old new : Option (List ℕ)) (lines : List (List ℕ)) (l : List ℕ) → Leaves bytes lines old → IfSome old (λ xs. (0 < length xs) × (l ≡ first_line xs)) → DropsThrough old new 10 → Leaves bytes (lines ++ l ∷ []) new
leaves_next None old new lines l p q d = tt
leaves_next (Some bs) None new lines l p q d = absurd p
leaves_next (Some bs) (Some xs) new lines l p q d =
    subst (λ (v : Option (List ℕ)). Left (lines ++ l ∷ []) bs v) (sym d) (p ∙ ap (λ v. lines ++ v) (line_first xs q.0 ∙ ap (λ v. v ∷ all_lines (drop_through 10 xs)) (sym q.1)) ∙ sym (append_assoc lines (l ∷ []) (all_lines (drop_through 10 xs))))

first_of : (bs xs : List ℕ) (lines : List (List ℕ)) → all_lines bs ≡ lines ++ all_lines xs → lines ≡ take (length lines) (all_lines bs)
first_of bs xs lines p = sym (ap (take (length lines)) p ∙ take-append_seam lines (all_lines xs))

all_of : (bs xs : List ℕ) (lines : List (List ℕ)) → all_lines bs ≡ lines ++ all_lines xs → xs ≡ [] → lines ≡ all_lines bs
all_of bs xs lines p e = sym (p ∙ ap (λ v. lines ++ all_lines v) e ∙ append-nil lines)

-- these are lines of the input, and all of them where nothing is left
pub are_lines : (bytes now : Option (List ℕ)) (lines : List (List ℕ)) (r : Result (Unit {0}) Fault) → Leaves bytes lines now → IfOk r (λ _. IsAtEnd now) → AreLinesOf bytes lines r
are_lines None now lines r p e = tt
are_lines (Some bs) None lines r p e = absurd p
are_lines (Some bs) (Some xs) lines (Ok x) p e = (first_of bs xs lines p, all_of bs xs lines p e)
are_lines (Some bs) (Some xs) lines (Err f) p e = (first_of bs xs lines p, tt)
