-- From what was answered, once and twice, to what is asked; all of them equations of the rows in between.
use Rattle.std.proofs.Common.{◌≡◌, ℕ, Bool, true, false, ◌&&◌, List, length, sym, refl, ap, ◌∙◌, arith}
use Rattle.layout.specs.Cells.{Cell, layout, seg}
use Rattle.layout.specs.Sound.{all_of}
use Rattle.soundness.specs.Walkable.{Tiling}
use Rattle.soundness.specs.Stamps.{DiffersInMarks, stamped, answers, object_answers, all_answer, header_ok, all_refer}
use Rattle.soundness.proofs.Judging.{and_true}
use Rattle.soundness.proofs.Stamping.{Marks, marks_first, marks_more, marks_layout, marks_tiling, marks_differ}
use Rattle.soundness.proofs.Twice.{twice}

-- what a stamp leaves of a row
pub record Stamped (slots free v : ℕ) (row : List ℕ) (slots1 : ℕ) (row1 : List ℕ) : Type 0 where
  pub same : slots1 ≡ slots
  pub after : row1 ≡ stamped v (layout slots row) row
  pub tiling : Tiling slots1 row1 free
  pub objects : layout slots1 row1 ≡ layout slots row
  pub len : length row1 ≡ length row

pub after_stamp : (slots free v : ℕ) (row : List ℕ) (slots1 : ℕ) (row1 : List ℕ) → Tiling slots row free → slots1 ≡ slots → row1 ≡ stamped v (layout slots row) row → Stamped slots free v row slots1 row1
after_stamp slots free v row slots1 row1 t e f =
    let m = marks_first slots row free t v in
    rw (e, f) (record { same = refl; after = refl; tiling = marks_tiling slots row free t v _ m; objects = marks_layout slots row free t v _ m; len = m.len })

-- a row that was only looked at since
pub looked_stamp : (slots free v : ℕ) (row : List ℕ) (slots1 : ℕ) (row1 : List ℕ) (slots2 : ℕ) (row2 : List ℕ) → Stamped slots free v row slots1 row1 → slots2 ≡ slots1 → row2 ≡ row1 → Stamped slots free v row slots2 row2
looked_stamp slots free v row slots1 row1 slots2 row2 s e f = rw (e, f) s

-- one answer
module _ (slots free v : ℕ) (row : List ℕ) (slots1 : ℕ) (row1 : List ℕ) (s : Stamped slots free v row slots1 row1) where
  slots_are : (b : Bool) → b ≡ all_of (answers free row1 v) (seg row1 64 slots1) → all_of (answers free (stamped v (layout slots row) row) v) (seg (stamped v (layout slots row) row) 64 slots) ≡ b
  slots_are b q =
      let e = s.same in
      let f = s.after in
      cc

  pub slots_false : false ≡ all_of (answers free row1 v) (seg row1 64 slots1) → false ≡ all_answer slots free (layout slots row) v (stamped v (layout slots row) row)
  slots_false q = sym (ap (λ (x : Bool). x && all_of (object_answers free (stamped v (layout slots row) row) v) (layout slots row)) (slots_are false q))

  pub slots_true : (slots2 : ℕ) (row2 : List ℕ) (b : Bool) → true ≡ all_of (answers free row1 v) (seg row1 64 slots1) → Stamped slots free v row slots2 row2
      → b ≡ all_of (object_answers free row2 v) (layout slots2 row2) → b ≡ all_answer slots free (layout slots row) v (stamped v (layout slots row) row)
  slots_true slots2 row2 b q z r =
      let o : all_of (object_answers free row2 v) (layout slots2 row2) ≡ all_of (object_answers free row2 v) (layout slots row) = ap (all_of (object_answers free row2 v)) z.objects in
      let p : all_of (object_answers free row2 v) (layout slots row) ≡ all_of (object_answers free (stamped v (layout slots row) row) v) (layout slots row) = ap (λ (x : List ℕ). all_of (object_answers free x v) (layout slots row)) z.after in
      r ∙ o ∙ p ∙ sym (ap (λ (x : Bool). x && all_of (object_answers free (stamped v (layout slots row) row) v) (layout slots row)) (slots_are true q))

-- two answers
module _ (slots free : ℕ) (row : List ℕ) (t : Tiling slots row free) (clean : all_of (header_ok row) (layout slots row) ≡ true) where
  abbrev cs : List Cell
  cs = layout slots row

  one : Marks 1 (layout slots row) row (stamped 1 (layout slots row) row)
  one = marks_first slots row free t 1

  two : Marks 2 (layout slots row) row (stamped 2 (layout slots row) (stamped 1 (layout slots row) row))
  two = marks_more slots row free t 1 2 (stamped 1 (layout slots row) row) (omega arith) one

  both : all_answer slots free cs 1 (stamped 1 cs row) && all_answer slots free cs 2 (stamped 2 cs (stamped 1 cs row)) ≡ all_refer slots cs row
  both = twice slots row free t (stamped 1 cs row) (stamped 2 cs (stamped 1 cs row)) one two

  pub first_differs : (slots1 : ℕ) (row1 : List ℕ) → Stamped slots free 1 row slots1 row1 → DiffersInMarks slots free row row1
  first_differs slots1 row1 s = rw s.after (marks_differ slots row free t clean 1 (stamped 1 cs row) (omega arith) one)

  pub first_false : false ≡ all_answer slots free (layout slots row) 1 (stamped 1 (layout slots row) row) → false ≡ all_refer slots (layout slots row) row
  first_false q = ap (λ (x : Bool). x && all_answer slots free cs 2 (stamped 2 cs (stamped 1 cs row))) q ∙ both

  module _ (slots1 : ℕ) (row1 : List ℕ) (s : Stamped slots free 1 row slots1 row1) (row2 : List ℕ) (a : row2 ≡ stamped 2 (layout slots1 row1) row1) where
    second : stamped 2 (layout slots1 row1) row1 ≡ stamped 2 cs (stamped 1 cs row)
    second = ap (λ (x : List Cell). stamped 2 x row1) s.objects ∙ ap (stamped 2 cs) s.after

    pub second_differs : DiffersInMarks slots free row row2
    second_differs = rw (a ∙ second) (marks_differ slots row free t clean 2 (stamped 2 cs (stamped 1 cs row)) (omega arith) two)

    pub second_is : (b : Bool) → true ≡ all_answer slots free (layout slots row) 1 (stamped 1 (layout slots row) row) → b ≡ all_answer slots1 free (layout slots1 row1) 2 (stamped 2 (layout slots1 row1) row1)
        → b ≡ all_refer slots (layout slots row) row
    second_is b q r =
        let x : all_answer slots1 free (layout slots1 row1) 2 (stamped 2 (layout slots1 row1) row1) ≡ all_answer slots free cs 2 (stamped 2 cs (stamped 1 cs row)) =
        ap (λ (n : ℕ). all_answer n free (layout slots1 row1) 2 (stamped 2 (layout slots1 row1) row1)) s.same
        ∙ ap (λ (n : List Cell). all_answer slots free n 2 (stamped 2 (layout slots1 row1) row1)) s.objects
        ∙ ap (all_answer slots free cs 2) second in
        r ∙ x ∙ and_true _ _ _ _ both refl (sym q)
