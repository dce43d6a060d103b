-- The cells from an address on, for loops that go from header to header: one step, the end, and what is asked of all cells.
use Rattle.std.proofs.Common.{◌≡◌, ℕ, zero, suc, ◌+◌, ◌-◌, ◌<◌, ◌≤◌, Bool, true, false, ◌&&◌, eqb, ltb, List, [], ◌∷◌, length, get_or, sym, refl, ap, ◌∙◌, inl, inr, arith}
use Rattle.std.proofs.lemmas.Bool.{lt-ltb, le-ltb, eq-eqb, ne_eqb, cases_lt}
use Rattle.layout.specs.Cells.{Cell, cell, span, cells, base, free_of, layout, seg, number, next}
use Rattle.layout.specs.Sound.{all_of, ends}
use Rattle.layout.proofs.Facts.{Tiled}
use Rattle.layout.proofs.Tiles.{tiled_le, cells_tiled}

unfoldable pub rest : List ℕ → ℕ → ℕ → List Cell
rest row at free = cells free row at free

-- where there is enough to go on, more changes nothing
cells_fuel : (k j : ℕ) (row : List ℕ) (at free : ℕ) → free ≤ at + k → free ≤ at + j → cells k row at free ≡ cells j row at free
cells_fuel zero zero row at free l m = refl
cells_fuel zero (suc j) row at free l m = rw (le-ltb at free (omega arith))
cells_fuel (suc k) zero row at free l m = rw (le-ltb at free (omega arith))
cells_fuel (suc k) (suc j) row at free l m =
    let c = cell at (get_or row at 0) in
    elim (cases_lt at free) [
      | inr h ↦ rw (le-ltb at free h)
      | inl h ↦ rw (lt-ltb at free h) (ap (λ (cs : List Cell). c ∷ cs) (cells_fuel k j row (at + span c) free (omega arith) (omega arith)))
    ]

pub rest_step : (row : List ℕ) (at free : ℕ) → at < free → rest row at free ≡ cell at (get_or row at 0) ∷ rest row (at + span (cell at (get_or row at 0))) free
unfolding rest
rest_step row at free l =
    let e : cells (suc free) row at free ≡ cell at (get_or row at 0) ∷ cells free row (at + span (cell at (get_or row at 0))) free = rw (lt-ltb at free l) in
    cells_fuel free (suc free) row at free (omega arith) (omega arith) ∙ e

pub rest_end : (row : List ℕ) (at free : ℕ) → free ≤ at → rest row at free ≡ []
unfolding rest
rest_end row at free l = cells_fuel free zero row at free (omega arith) (omega arith)

pub rest_layout : (slots : ℕ) (row : List ℕ) → free_of row ≤ length row → rest row (base slots) (free_of row) ≡ layout slots row
unfolding rest layout
rest_layout slots row l = cells_fuel (free_of row) (length row) row (base slots) (free_of row) (omega arith) (omega arith)

pub rest_tiled : (row : List ℕ) (at free : ℕ) → ends (rest row at free) at free ≡ true → Tiled row at free (rest row at free)
unfolding rest
rest_tiled row at free e = cells_tiled free row at free e

-- do the cells end where the free words begin?
pub ends_step : (row : List ℕ) (at free w : ℕ) → at < free → w ≡ span (cell at (get_or row at 0)) → ends (rest row at free) at free ≡ ends (rest row (at + w) free) (at + w) free
ends_step row at free w l e = rw (rest_step row at free l, e)

pub ends_end : (row : List ℕ) (at free : ℕ) → free ≤ at → ends (rest row at free) at free ≡ eqb at free
ends_end row at free l = rw (rest_end row at free l)

-- then each lies before them
pub rest_within : (row : List ℕ) (at free : ℕ) → at < free → ends (rest row at free) at free ≡ true → at + span (cell at (get_or row at 0)) ≤ free
rest_within row at free l e =
    let c = cell at (get_or row at 0) in
    let t = rest_tiled row (at + span c) free (sym (ends_step row at free (span c) l refl) ∙ e) in
    omega (arith, tiled_le row (at + span c) free (rest row (at + span c) free) t)

-- does a cell begin at a?
next_above : (n : ℕ) → ltb 0 (next n) ≡ ltb 0 n
next_above zero = refl
next_above (suc n) = lt-ltb 0 (suc (suc n)) (omega arith) ∙ sym (lt-ltb 0 (suc n) (omega arith))

pub number_step : (row : List ℕ) (at free w a : ℕ) → at < free → w ≡ span (cell at (get_or row at 0)) → (at ≡ a → ⊥) → ltb 0 (number (rest row at free) a) ≡ ltb 0 (number (rest row (at + w) free) a)
number_step row at free w a l e d = rw (rest_step row at free l, ne_eqb at a d, e) (next_above (number (rest row (at + span (cell at (get_or row at 0))) free) a))

pub number_hit : (row : List ℕ) (at free a : ℕ) → at < free → at ≡ a → ltb 0 (number (rest row at free) a) ≡ true
number_hit row at free a l e = rw (rest_step row at free l, eq-eqb at a e)

pub number_end : (row : List ℕ) (at free a : ℕ) → free ≤ at → ltb 0 (number (rest row at free) a) ≡ false
number_end row at free a l = rw (rest_end row at free l)

-- is a test true of all cells, and of all words of a part of the row?
pub all_step : (f : Cell → Bool) (row : List ℕ) (at free w : ℕ) → at < free → w ≡ span (cell at (get_or row at 0)) → all_of f (rest row at free) ≡ f (cell at (get_or row at 0)) && all_of f (rest row (at + w) free)
all_step f row at free w l e = rw (rest_step row at free l, e)

pub all_end : (f : Cell → Bool) (row : List ℕ) (at free : ℕ) → free ≤ at → all_of f (rest row at free) ≡ true
all_end f row at free l = rw (rest_end row at free l)

pub part_step : (f : ℕ → Bool) (row : List ℕ) (from n i : ℕ) → i < n → all_of f (seg row (from + i) (n - i)) ≡ f (get_or row (from + i) 0) && all_of f (seg row (from + (i + 1)) (n - (i + 1)))
part_step f row from n i l =
    let e : n - i ≡ suc (n - (i + 1)) = omega arith in
    let a : from + (i + 1) ≡ suc (from + i) = omega arith in
    rw (e, a)
