-- From the tests to the verdict.
use Rattle.std.proofs.Common.{◌≡◌, ℕ, zero, suc, ◌<◌, ◌≤◌, Bool, true, false, ◌&&◌, eqb, List, [], ◌∷◌, length, get_or, sym, refl, ap, ◌∙◌, arith}
use mathlib.Core.Option.{some}
use Rattle.std.proofs.lemmas.Bool.{and_parts, le-leb, lt-leb}
use Rattle.world.specs.Base.{nth}
use Rattle.layout.specs.Map.{base, free_of}
use Rattle.layout.specs.Cells.{Cell, layout, seg}
use Rattle.layout.specs.Sound.{all_of, all_true, none_header, root_header, ends, reference_ok, cell_ok, tests, sound}
use Rattle.layout.proofs.Lists.{none_some, some_some}
use Rattle.soundness.specs.Stamps.{header_ok, places_ok, all_refer}
use Rattle.soundness.proofs.Twice.{all_both}

-- one test that fails is enough
false_at : (bs : List Bool) (i : ℕ) → nth bs i ≡ some false → all_true bs ≡ false
false_at [] i e = absurd (none_some e)
false_at (b ∷ bs) zero e = ap (λ (c : Bool). c && all_true bs) (some_some e)
false_at (b ∷ bs) (suc i) e = by b (false_at bs i e)
  where
    by : (c : Bool) → all_true bs ≡ false → c && all_true bs ≡ false
    by true h = h
    by false h = refl

-- the two halves of what is asked of objects
cells_split : (row : List ℕ) (cs ds : List Cell) → all_of (header_ok row) ds && all_of (places_ok cs row) ds ≡ all_of (cell_ok cs row) ds
cells_split row cs ds = all_both (header_ok row) (places_ok cs row) (cell_ok cs row) ds (λ i x e. refl)

module _ (slots : ℕ) (row : List ℕ) where
  -- no sentinels
  pub unsound_0 : false ≡ eqb (get_or row 0 0) none_header && eqb (get_or row 62 0) (root_header slots) → false ≡ sound slots row
  unfolding sound
  unsound_0 e = sym (by (eqb (get_or row 0 0) none_header) refl (eqb (get_or row 62 0) (root_header slots)) refl (sym e))
    where
      by : (a : Bool) → eqb (get_or row 0 0) none_header ≡ a → (b : Bool) → eqb (get_or row 62 0) (root_header slots) ≡ b → eqb (get_or row 0 0) none_header && eqb (get_or row 62 0) (root_header slots) ≡ false → all_true (tests slots row (layout slots row)) ≡ false
      by false p b q z = false_at (tests slots row (layout slots row)) 0 (ap some p)
      by true p false q z = false_at (tests slots row (layout slots row)) 1 (ap some q)
      by true p true q z = absurd (let n : ◌≡◌ {A = Bool} true false = sym (rw (p, q)) ∙ z in let m : ◌≡◌ {A = ℕ} 0 1 = cc in omega arith)

  -- free words past the end
  pub unsound_2 : length row < free_of row → false ≡ sound slots row
  unfolding sound
  unsound_2 l = sym (false_at (tests slots row (layout slots row)) 2 (ap some (lt-leb (free_of row) (length row) l)))

  -- objects that do not end there, or a header that is not well formed
  pub unsound_3 : (slots1 : ℕ) (row1 : List ℕ) (free : ℕ) → row1 ≡ row → slots1 ≡ slots → free ≡ free_of row → false ≡ all_of (header_ok row1) (layout slots1 row1) && ends (layout slots1 row1) (base slots1) free → false ≡ sound slots row
  unfolding sound
  unsound_3 slots1 row1 free e f q h = by (all_of (header_ok row) (layout slots row)) refl (ends (layout slots row) (base slots) (free_of row)) refl (rw (e, f, q) at h)
    where
      by : (a : Bool) → all_of (header_ok row) (layout slots row) ≡ a → (b : Bool) → ends (layout slots row) (base slots) (free_of row) ≡ b → false ≡ all_of (header_ok row) (layout slots row) && ends (layout slots row) (base slots) (free_of row) → false ≡ all_true (tests slots row (layout slots row))
      by a p false r z = sym (false_at (tests slots row (layout slots row)) 3 (ap some r))
      by false p true r z = sym (false_at (tests slots row (layout slots row)) 4 (ap some (sym (cells_split row (layout slots row) (layout slots row)) ∙ ap (λ (x : Bool). x && all_of (places_ok (layout slots row) row) (layout slots row)) p)))
      by true p true r z = absurd (let n : ◌≡◌ {A = Bool} false true = z ∙ rw (p, r) in let m : ◌≡◌ {A = ℕ} 0 1 = cc in omega arith)

  -- all but the references: then these decide
  pub sound_by : (b : Bool) → true ≡ eqb (get_or row 0 0) none_header && eqb (get_or row 62 0) (root_header slots) → free_of row ≤ length row
      → ends (layout slots row) (base slots) (free_of row) ≡ true → all_of (header_ok row) (layout slots row) ≡ true
      → b ≡ all_refer slots (layout slots row) row → b ≡ sound slots row
  unfolding sound
  sound_by b s l t o r =
      let p = and_parts (eqb (get_or row 0 0) none_header) (eqb (get_or row 62 0) (root_header slots)) (sym s) in
      let q = le-leb (free_of row) (length row) l in
      let k : all_of (cell_ok (layout slots row) row) (layout slots row) ≡ all_of (places_ok (layout slots row) row) (layout slots row) = sym (cells_split row (layout slots row) (layout slots row)) ∙ ap (λ (x : Bool). x && all_of (places_ok (layout slots row) row) (layout slots row)) o in
      r ∙ sym (rw (p.0, p.1, q, t, k) (last (all_of (places_ok (layout slots row) row) (layout slots row)) (all_of (reference_ok (layout slots row)) (seg row 64 slots))))
    where
      last : (c d : Bool) → true && (true && (true && (true && (c && (d && true))))) ≡ d && c
      last true true = refl
      last true false = refl
      last false true = refl
      last false false = refl
