-- A loop from object to object: the objects that are left, and what they cost.
use Rattle.std.proofs.Common.{◌≡◌, ℕ, zero, suc, ◌+◌, ◌-◌, ◌*◌, ◌<◌, ◌≤◌, List, [], ◌∷◌, length, get_or, ap, ◌∙◌, inl, inr, arith}
use Rattle.words.specs.declared.header.Header.{Header}
use Rattle.words.specs.Header.{unpacked}
use Rattle.words.specs.Kinds.{weight, place_count, word_count, place_count_of, word_count_of}
use Rattle.words.specs.Edges.{references}
use Rattle.std.proofs.lemmas.Bool.{lt-ltb, le-ltb, cases_lt}
use Rattle.layout.specs.Map.{base, free_of}
use Rattle.layout.specs.Cells.{Cell, cell, span, cells, layout}
use Rattle.layout.proofs.Facts.{Tiled}
use Rattle.layout.proofs.Rests.{rest, rest_layout, rest_step}
use Rattle.soundness.specs.Walkable.{Walkable}
use Rattle.soundness.specs.Costs.{places_in}

-- at first
pub rest_first : (slots : ℕ) (row : List ℕ) (free at : ℕ) → Walkable slots row free → at ≡ base slots → rest row at free ≡ layout slots row
rest_first slots row free at k e =
    let l = rest_layout slots row (let a = k.free_is in let b = k.within in omega arith) in
    let f = k.free_is in
    cc

-- the next header
pub record Heads (row : List ℕ) (at : ℕ) (h : Header) : Type 0 where
  pub whole : h ≡ unpacked (get_or row at 0)
  pub places : references h ≡ place_count_of (get_or row at 0)
  pub span : weight h ≡ span (cell at (get_or row at 0))

pub heads : (row row' : List ℕ) (at : ℕ) (h : Header) → get_or row' at 0 ≡ get_or row at 0 → h ≡ unpacked (get_or row' at 0) → Heads row at h
heads row row' at h e q =
    let p : place_count h ≡ place_count_of (get_or row at 0) = ap place_count q ∙ ap place_count_of e in
    let n : word_count h ≡ word_count_of (get_or row at 0) = ap word_count q ∙ ap word_count_of e in
    record { whole = q ∙ ap unpacked e; places = p; span = omega arith }

-- one object less is left
pub fewer : (row : List ℕ) (at free w : ℕ) → at < free → w ≡ span (cell at (get_or row at 0)) → length (rest row at free) ≡ 1 + length (rest row (at + w) free)
fewer row at free w l e =
    let s = ap length (rest_step row at free l) in
    let r = ap (λ (x : ℕ). length (rest row (at + x) free)) e in
    omega arith

pub fewer_places : (row : List ℕ) (at free w p : ℕ) → at < free → w ≡ span (cell at (get_or row at 0)) → p ≡ place_count_of (get_or row at 0) → places_in (rest row at free) ≡ p + places_in (rest row (at + w) free)
fewer_places row at free w p l e q =
    let s = ap places_in (rest_step row at free l) in
    let r = ap (λ (x : ℕ). places_in (rest row (at + x) free)) e in
    omega arith

-- no more objects than words
few_cells : (k : ℕ) (row : List ℕ) (at free : ℕ) → length (cells k row at free) ≤ free - at
few_cells zero row at free = omega arith
few_cells (suc k) row at free =
    let c = cell at (get_or row at 0) in
    elim (cases_lt at free) [
      | inl l ↦ rw (lt-ltb at free l) (omega (arith, few_cells k row (at + span c) free))
      | inr l ↦ rw (le-ltb at free l) (omega arith)
    ]

pub few_objects : (slots : ℕ) (row : List ℕ) → length (layout slots row) ≤ free_of row - base slots
unfolding layout
few_objects slots row = few_cells (length row) row (base slots) (free_of row)

-- where objects end at the free words, what is before these has two words for each of them, and their places
pub tiled_cost : (row : List ℕ) (at free : ℕ) (cs : List Cell) → Tiled row at free cs → at + (2 * length cs + places_in cs) ≤ free
tiled_cost row at free [] t = omega (arith, t)
tiled_cost row at free (c ∷ cs) t = omega (arith, tiled_cost row (at + span c) free cs t.3)
