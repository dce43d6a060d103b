-- What a mark in all headers changes, and that 0 in them makes the row what it was.
use Rattle.std.proofs.Common.{◌≡◌, ℕ, zero, suc, ◌+◌, ◌<◌, ◌≤◌, true, List, [], ◌∷◌, length, get_or, set, sym, refl, ap, ◌∙◌, subst, arith}
use mathlib.Core.Option.{some}
use Rattle.std.proofs.lemmas.List.{length-set, get_or-set_same, get_or-set_other, ext_get_or}
use Rattle.words.specs.declared.header.Header.{Header}
use Rattle.words.specs.Header.{mark_of, unpacked}
use Rattle.words.specs.Packing.{packed, with_mark}
use Rattle.words.specs.Kinds.{place_count_of, word_count_of}
use Rattle.words.proofs.KindLaws.{well_formed_mark}
use Rattle.world.specs.Base.{nth}
use Rattle.layout.specs.Map.{base, free_of}
use Rattle.layout.specs.Cells.{Cell, cell, span, layout, number}
use Rattle.layout.specs.Sound.{all_of}
use Rattle.layout.proofs.Facts.{Tiled}
use Rattle.layout.proofs.Lists.{none_some, some_some, all_at}
use Rattle.layout.proofs.Rests.{rest, rest_step}
use Rattle.layout.proofs.Tiles.{placed, tiled_le, tiled_few, tiled_same, tiled_cells, cells_tiled, number_inv, zero_number}
use Rattle.soundness.specs.Walkable.{Tiling}
use Rattle.soundness.specs.Stamps.{DiffersInMarks, marked_word, stamped, header_ok}

-- another mark in a header's word
pub marked_places : (v w : ℕ) → place_count_of (marked_word v w) ≡ place_count_of w
marked_places v w = omega arith

pub marked_words : (v w : ℕ) → word_count_of (marked_word v w) ≡ word_count_of w
marked_words v w = omega arith

pub marked_mark : (v w : ℕ) → v < 131072 → mark_of (marked_word v w) ≡ v
marked_mark v w l = omega arith

pub marked_again : (u v w : ℕ) → u < 131072 → marked_word v (marked_word u w) ≡ marked_word v w
marked_again u v w l = omega arith

pub marked_none : (w : ℕ) → mark_of w ≡ 0 → w ≡ marked_word 0 w
marked_none w e = omega arith

-- in those of some objects
pub length_stamped : (v : ℕ) (cs : List Cell) (row : List ℕ) → length (stamped v cs row) ≡ length row
length_stamped v [] row = refl
length_stamped v (c ∷ cs) row = length_stamped v cs (set row c.start (marked_word v (get_or row c.start 0))) ∙ length-set row c.start (marked_word v (get_or row c.start 0))

stamped_other : (v : ℕ) (cs : List Cell) (row : List ℕ) (x : ℕ) → ((i : ℕ) (c : Cell) → nth cs i ≡ some c → c.start ≡ x → ⊥) → get_or (stamped v cs row) x 0 ≡ get_or row x 0
stamped_other v [] row x h = refl
stamped_other v (c ∷ cs) row x h =
    stamped_other v cs (set row c.start (marked_word v (get_or row c.start 0))) x (λ i d e. h (suc i) d e)
    ∙ get_or-set_other row c.start x (marked_word v (get_or row c.start 0)) 0 (λ q. h 0 c refl (sym q))

stamped_head : (v : ℕ) (heads : List ℕ) (at free : ℕ) (cs : List Cell) (row : List ℕ) → Tiled heads at free cs → free ≤ length row
    → (i : ℕ) (c : Cell) → nth cs i ≡ some c → get_or (stamped v cs row) c.start 0 ≡ marked_word v (get_or row c.start 0)
stamped_head v heads at free [] row t l i c e = absurd (none_some e)
stamped_head v heads at free (d ∷ ds) row t l zero c e =
    let q : d ≡ c = some_some e in
    let x = marked_word v (get_or row d.start 0) in
    let o = stamped_other v ds (set row d.start x) d.start (λ i y m z. omega (arith, placed heads (at + span d) free ds t.3 i y m, t.0)) in
    let s = get_or-set_same row d.start x 0 (omega (arith, tiled_le heads (at + span d) free ds t.3, t.0)) in
    subst (λ (y : Cell). get_or (stamped v ds (set row d.start x)) y.start 0 ≡ marked_word v (get_or row y.start 0)) q (o ∙ s)
stamped_head v heads at free (d ∷ ds) row t l (suc i) c e =
    let x = marked_word v (get_or row d.start 0) in
    let p = placed heads (at + span d) free ds t.3 i c e in
    stamped_head v heads (at + span d) free ds (set row d.start x) t.3 (omega (arith, length-set row d.start x)) i c e
    ∙ ap (marked_word v) (get_or-set_other row d.start c.start x 0 (λ q. omega (arith, p, t.0)))

-- one header more
pub stamp_step : (v : ℕ) (row row1 row2 : List ℕ) (at free w : ℕ) → at < free → w ≡ span (cell at (get_or row at 0)) → row2 ≡ set row1 at (marked_word v (get_or row1 at 0)) → stamped v (rest row (at + w) free) row2 ≡ stamped v (rest row at free) row1
stamp_step v row row1 row2 at free w l e f =
    ap (stamped v (rest row (at + w) free)) f
    ∙ ap (λ (x : ℕ). stamped v (rest row (at + x) free) (set row1 at (marked_word v (get_or row1 at 0)))) e
    ∙ sym (ap (λ (cs : List Cell). stamped v cs row1) (rest_step row at free l))

pub stamp_write : (v : ℕ) (row1 row2 row3 : List ℕ) (at at2 : ℕ) (h : Header) → row2 ≡ row1 → at2 ≡ at → h ≡ unpacked (get_or row1 at 0) → row3 ≡ set row2 at2 (packed (with_mark h v)) → row3 ≡ set row1 at (marked_word v (get_or row1 at 0))
stamp_write v row1 row2 row3 at at2 h e f q w =
    w ∙ ap (λ (r : List ℕ). set r at2 (packed (with_mark h v))) e ∙ ap (λ (x : ℕ). set row1 x (packed (with_mark h v))) f ∙ ap (λ (x : Header). set row1 at (packed (with_mark x v))) q

-- a row in which every header has this mark, and all else is as it was
pub record Marks (v : ℕ) (cs : List Cell) (row row1 : List ℕ) : Type 0 where
  pub len : length row1 ≡ length row
  pub heads : (i : ℕ) (c : Cell) → nth cs i ≡ some c → get_or row1 c.start 0 ≡ marked_word v (get_or row c.start 0)
  pub rest : (x : ℕ) → ((i : ℕ) (c : Cell) → nth cs i ≡ some c → c.start ≡ x → ⊥) → get_or row1 x 0 ≡ get_or row x 0

pub tiled_of : (slots : ℕ) (row : List ℕ) (free : ℕ) → Tiling slots row free → Tiled row (base slots) free (layout slots row)
unfolding layout
tiled_of slots row free t =
    let f = t.walkable.free_is in
    rw f (cells_tiled (length row) row (base slots) (free_of row) (rw f at t.ends))

layout_is : (slots : ℕ) (row : List ℕ) (free : ℕ) (ds : List Cell) → Tiled row (base slots) free ds → length ds ≤ length row → free_of row ≡ free → layout slots row ≡ ds
unfolding layout
layout_is slots row free ds s l f = rw f (tiled_cells (length row) row (base slots) free ds s l)

module _ (slots : ℕ) (row : List ℕ) (free : ℕ) (t : Tiling slots row free) where
  abbrev cs : List Cell
  cs = layout slots row

  pub marks_first : (v : ℕ) → Marks v (layout slots row) row (stamped v (layout slots row) row)
  marks_first v =
      let w = t.walkable.within in
      record {
        len = length_stamped v cs row;
        heads = stamped_head v row (base slots) free cs row (tiled_of slots row free t) w;
        rest = stamped_other v cs row;
      }

  pub marks_more : (u v : ℕ) (row1 : List ℕ) → u < 131072 → Marks u (layout slots row) row row1 → Marks v (layout slots row) row (stamped v (layout slots row) row1)
  marks_more u v row1 l m =
      let n = m.len in
      let w = t.walkable.within in
      record {
        len = length_stamped v cs row1 ∙ m.len;
        heads = λ i c e. stamped_head v row (base slots) free cs row1 (tiled_of slots row free t) (omega arith) i c e ∙ ap (marked_word v) (m.heads i c e) ∙ marked_again u v (get_or row c.start 0) l;
        rest = λ x h. stamped_other v cs row1 x h ∙ m.rest x h;
      }

  -- it can be looked through, and has the same objects
  pub marks_free : (v : ℕ) (row1 : List ℕ) → Marks v (layout slots row) row row1 → free_of row1 ≡ free_of row
  marks_free v row1 m = m.rest 2 (λ i c e q. omega (arith, placed row (base slots) free cs (tiled_of slots row free t) i c e))

  pub marks_tiled : (v : ℕ) (row1 : List ℕ) → Marks v (layout slots row) row row1 → Tiled row1 (base slots) free (layout slots row)
  marks_tiled v row1 m = tiled_same row row1 (base slots) free cs (tiled_of slots row free t)
      (λ i c e. let h = m.heads i c e in (ap place_count_of h ∙ marked_places v (get_or row c.start 0), ap word_count_of h ∙ marked_words v (get_or row c.start 0)))

  pub marks_layout : (v : ℕ) (row1 : List ℕ) → Marks v (layout slots row) row row1 → layout slots row1 ≡ layout slots row
  marks_layout v row1 m =
      let f = marks_free v row1 m ∙ sym t.walkable.free_is in
      let n = m.len in
      let w = t.walkable.within in
      let y = tiled_few row (base slots) free cs (tiled_of slots row free t) in
      layout_is slots row1 free cs (marks_tiled v row1 m) (omega arith) f

  pub marks_tiling : (v : ℕ) (row1 : List ℕ) → Marks v (layout slots row) row row1 → Tiling slots row1 free
  marks_tiling v row1 m =
      let f = marks_free v row1 m ∙ sym t.walkable.free_is in
      let n = m.len in
      let w = t.walkable in
      let a = w.fits in
      let b = w.short in
      let d = w.within in
      record {
        walkable = record { fits = omega arith; short = omega arith; free_is = sym f; within = omega arith };
        ends = rw (marks_layout v row1 m) t.ends;
      }

  -- where the headers were well formed, 0 is the mark that all had
  module _ (clean : all_of (header_ok row) (layout slots row) ≡ true) where
    unmarked : (i : ℕ) (c : Cell) → nth cs i ≡ some c → mark_of (get_or row c.start 0) ≡ 0
    unmarked i c e = well_formed_mark (get_or row c.start 0) (all_at (header_ok row) cs clean i c e)

    pub marks_none : Marks 0 (layout slots row) row row
    marks_none = record { len = refl; heads = λ i c e. marked_none (get_or row c.start 0) (unmarked i c e); rest = λ x h. refl }

    pub marks_back : (row1 : List ℕ) → Marks 0 (layout slots row) row row1 → row1 ≡ row
    marks_back row1 m = ext_get_or 0 row1 row m.len (λ x l. by x (number cs x) refl)
      where
        by : (x n : ℕ) → number cs x ≡ n → get_or row1 x 0 ≡ get_or row x 0
        by x zero e = m.rest x (zero_number row (base slots) free cs (tiled_of slots row free t) x e)
        by x (suc i) e =
            let f = number_inv cs x i e in
            let p : get_or row1 f.0.start 0 ≡ get_or row f.0.start 0 = m.heads i f.0 f.1 ∙ sym (marked_none (get_or row f.0.start 0) (unmarked i f.0 f.1)) in
            subst (λ (y : ℕ). get_or row1 y 0 ≡ get_or row y 0) f.2 p

    pub marks_differ : (v : ℕ) (row1 : List ℕ) → v < 131072 → Marks v (layout slots row) row row1 → DiffersInMarks slots free row row1
    marks_differ v row1 l m =
        let e = marks_layout v row1 m in
        record { walkable = (marks_tiling v row1 m).walkable; objects = e; back = rw e (marks_back (stamped 0 cs row1) (marks_more v 0 row1 l m)) }
