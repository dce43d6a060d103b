-- A row after one cell was led to an object: that cell, any other, and how long it is.
use Rattle.std.proofs.Common.{◌≡◌, ℕ, ◌+◌, ◌*◌, ◌%◌, ◌^◌, ◌<◌, ◌≢◌, List, length, get_or, sym, ap, ◌∙◌, arith, slice_index, get_or-set_other, get_or-set_same}
use Rattle.std.proofs.lemmas.List.{length-set}
use Rattle.std.proofs.lemmas.Nat.{mul-add-lt}
use Rattle.marking_tests.specs.Rows.{Leads, To}

pub led : (cell to : ℕ) (row row' : List ℕ) → Leads cell to row row' → cell < length row → to < 2 ^ 56 → To row' cell to
led cell to row row' e h s =
    ap (λ (r : List ℕ). get_or r cell 0) e ∙ get_or-set_same row cell (to * 256 % 2 ^ 64) 0 h ∙ omega arith

-- the same, where the numbers are what they should be
pub led_to : (cell to at there : ℕ) (row row' : List ℕ) → Leads cell to row row' → cell ≡ at → to ≡ there → at < length row → there < 2 ^ 56 → To row' at there
led_to cell to at there row row' e c t h s =
    let l : To row' cell to = led cell to row row' e (omega arith) (omega arith) in
    ap (λ (k : ℕ). get_or row' k 0) (sym c) ∙ l ∙ ap (λ k. 256 * k) t

pub kept : (cell to k v : ℕ) (row row' : List ℕ) → Leads cell to row row' → k ≢ cell → slice_index row k ≡ v → slice_index row' k ≡ v
kept cell to k v row row' e d h =
    ap (λ (r : List ℕ). get_or r k 0) e ∙ get_or-set_other row cell k (to * 256 % 2 ^ 64) 0 d ∙ h

pub long : (cell to n : ℕ) (row row' : List ℕ) → Leads cell to row row' → length row ≡ n → length row' ≡ n
long cell to n row row' e h = ap length e ∙ length-set row cell (to * 256 % 2 ^ 64) ∙ h

-- cells of a grid: those of the rows before, and those before in a row, are others
pub earlier : (s i j a b : ℕ) → a < i → b < s → a * s + b < i * s + j
earlier s i j a b h k = let l = mul-add-lt a s b i h k in omega (arith, l)

pub below_square : (i s : ℕ) → i < 65536 → s < 65538 → i * s < 2 ^ 40
below_square i s h k =
    let l = mul-add-lt i s 0 65536 h in
    grind arith
