-- What answers to two marks in turn is a reference, and what is one answers to any.
use Rattle.std.proofs.Common.{◌≡◌, ℕ, zero, suc, ◌+◌, ◌<◌, ◌≤◌, Bool, true, false, ◌&&◌, ◌||◌, eqb, ltb, List, [], ◌∷◌, get_or, sym, refl, ap, ◌∙◌, subst, inl, inr, arith}
use mathlib.Core.Option.{some}
use Rattle.std.proofs.lemmas.Bool.{ne_eqb, lt-ltb, cases_eq}
use Rattle.words.specs.Header.{mark_of}
use Rattle.words.specs.Reference.{address_of, tag_of}
use Rattle.world.specs.Base.{nth}
use Rattle.layout.specs.Map.{base}
use Rattle.layout.specs.Cells.{Cell, layout, seg, number}
use Rattle.layout.specs.Sound.{all_of, reference_ok}
use Rattle.layout.proofs.Lists.{some_some}
use Rattle.layout.proofs.Segs.{seg_same}
use Rattle.layout.proofs.Tiles.{placed, others, number_inv, zero_number}
use Rattle.soundness.specs.Walkable.{Tiling}
use Rattle.soundness.specs.Stamps.{answers, object_answers, all_answer, places_ok, all_refer}
use Rattle.soundness.proofs.Stamping.{Marks, tiled_of, marked_mark}

-- two pairs of tests, and each pair comes to one
four : (a b c d p q : Bool) → a && c ≡ p → b && d ≡ q → (a && b) && (c && d) ≡ p && q
four true true c d p q e k = cc
four true false true d p q e k = cc
four true false false d p q e k = cc
four false b c d p q e k = cc

-- two tests of all elements that come to a third
pub all_both : {A : Type 0} (f g h : A → Bool) (xs : List A) → ((i : ℕ) (x : A) → nth xs i ≡ some x → f x && g x ≡ h x) → all_of f xs && all_of g xs ≡ all_of h xs
all_both f g h [] e = refl
all_both f g h (x ∷ xs) e = four (f x) (all_of f xs) (g x) (all_of g xs) (h x) (all_of h xs) (e 0 x refl) (all_both f g h xs (λ i y m. e (suc i) y m))

-- no word has two marks
not_both : (b : Bool) (m : ℕ) → (b && eqb m 1) && (b && eqb m 2) ≡ false
not_both false m = refl
not_both true m = elim (cases_eq m 1) [ inl e ↦ rw e refl | inr d ↦ rw (ne_eqb m 1 d) refl ]

-- a tag of 0, and none or what leads
three : (t z p q r : Bool) → p && q ≡ r → (t && (z || p)) && (t && (z || q)) ≡ t && (z || r)
three false z p q r e = refl
three true true p q r e = refl
three true false p q r e = e

module _ (slots : ℕ) (row : List ℕ) (free : ℕ) (t : Tiling slots row free) where
  abbrev cs : List Cell
  cs = layout slots row

  -- behind the two words of an object no other begins
  inside : (i : ℕ) (c : Cell) → nth cs i ≡ some c → (k : ℕ) → c.start + 2 ≤ k → k < c.start + 2 + c.places → (j : ℕ) (d : Cell) → nth cs j ≡ some d → d.start ≡ k → ⊥
  inside i c e k a b j d f q =
      elim (cases_eq j i) [
        | inl w ↦ (let z : d ≡ c = some_some (sym f ∙ ap (nth cs) w ∙ e) in let y : d.start ≡ c.start = ap (λ (x : Cell). x.start) z in omega arith)
        | inr n ↦ omega (arith, others row (base slots) free cs (tiled_of slots row free t) i j c d e f n)
      ]

  module _ (row1 row2 : List ℕ) (m1 : Marks 1 (layout slots row) row row1) (m2 : Marks 2 (layout slots row) row row2) where
    -- where an object begins there are both marks, and nowhere else
    led : (a : ℕ) → (ltb a free && eqb (mark_of (get_or row1 a 0)) 1) && (ltb a free && eqb (mark_of (get_or row2 a 0)) 2) ≡ ltb 0 (number cs a)
    led a = by (number cs a) refl
      where
        by : (n : ℕ) → number cs a ≡ n → (ltb a free && eqb (mark_of (get_or row1 a 0)) 1) && (ltb a free && eqb (mark_of (get_or row2 a 0)) 2) ≡ ltb 0 (number cs a)
        by zero e =
            let z = zero_number row (base slots) free cs (tiled_of slots row free t) a e in
            let p = ap mark_of (m1.rest a z) in
            let q = ap mark_of (m2.rest a z) in
            let b = not_both (ltb a free) (mark_of (get_or row a 0)) in
            rw (p, q, e) b
        by (suc i) e =
            let f = number_inv cs a i e in
            let c = f.0 in
            let p : mark_of (get_or row1 c.start 0) ≡ 1 = ap mark_of (m1.heads i c f.1) ∙ marked_mark 1 (get_or row c.start 0) (omega arith) in
            let q : mark_of (get_or row2 c.start 0) ≡ 2 = ap mark_of (m2.heads i c f.1) ∙ marked_mark 2 (get_or row c.start 0) (omega arith) in
            let p1 : mark_of (get_or row1 a 0) ≡ 1 = subst (λ (x : ℕ). mark_of (get_or row1 x 0) ≡ 1) f.2 p in
            let q1 : mark_of (get_or row2 a 0) ≡ 2 = subst (λ (x : ℕ). mark_of (get_or row2 x 0) ≡ 2) f.2 q in
            let l = placed row (base slots) free cs (tiled_of slots row free t) i c f.1 in
            let s = f.2 in
            rw (p1, q1, e, lt-ltb a free (omega (arith, l, s)), lt-ltb 0 (suc i) (omega arith)) refl

    one : (w : ℕ) → answers free row1 1 w && answers free row2 2 w ≡ reference_ok cs w
    one w = three (eqb (tag_of w) 0) (eqb (address_of w) 0) _ _ _ (led (address_of w))

    -- a part of the row in which no object begins
    part : (at n : ℕ) → ((k : ℕ) → at ≤ k → k < at + n → (j : ℕ) (d : Cell) → nth cs j ≡ some d → d.start ≡ k → ⊥)
        → all_of (answers free row1 1) (seg row1 at n) && all_of (answers free row2 2) (seg row2 at n) ≡ all_of (reference_ok cs) (seg row at n)
    part at n h =
        let s1 = seg_same row row1 at n (λ k a b. m1.rest k (h k a b)) in
        let s2 = seg_same row row2 at n (λ k a b. m2.rest k (h k a b)) in
        let b = all_both (answers free row1 1) (answers free row2 2) (reference_ok cs) (seg row at n) (λ i x e. one x) in
        cc

    -- all slots and places
    pub twice : all_answer slots free (layout slots row) 1 row1 && all_answer slots free (layout slots row) 2 row2 ≡ all_refer slots (layout slots row) row
    twice = four (all_of (answers free row1 1) (seg row1 64 slots)) (all_of (object_answers free row1 1) cs) (all_of (answers free row2 2) (seg row2 64 slots)) (all_of (object_answers free row2 2) cs) _ _
        (part 64 slots (λ k a b j d e q. omega (arith, placed row (base slots) free cs (tiled_of slots row free t) j d e)))
        (all_both (object_answers free row1 1) (object_answers free row2 2) (places_ok cs row) cs (λ i c e. part (c.start + 2) c.places (inside i c e)))
