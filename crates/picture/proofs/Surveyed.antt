-- A row that is marked shows what the row before marking does.
use Rattle.std.proofs.Common.{◌≡◌, ℕ, suc, ◌+◌, Bool, true, List, [], ◌∷◌, ◌++◌, map, length, sym, refl, ap, ap₂, ◌∙◌, arith}
use mathlib.Core.Option.{some}
use Rattle.world.specs.Base.{nth, has}
use Rattle.world.specs.World.{reached}
use Rattle.layout.specs.Cells.{Cell, cells, base, free_of, layout, world_of}
use Rattle.layout.specs.Sound.{sound}
use Rattle.layout.proofs.Facts.{Heap}
use Rattle.layout.specs.Marks.{marked_at, marked_from, Remarked, MarksReached}
use Rattle.layout.proofs.Lists.{some_some}
use Rattle.layout.proofs.Segs.{seg_same}
use Rattle.layout.proofs.Tiles.{tiled_few, tiled_cells, tiled_ends}
use Rattle.layout.proofs.Heaps.{heap_of}
use Rattle.moves.proofs.Reading.{remarked_tiled, remarked_free, remarked_inside, remarked_slots}
use Rattle.marking.proofs.Numbers.{same_test, first_has, has_counted}
use Rattle.picture.specs.declared.spot.Spot.{Spot}
use Rattle.picture.specs.Spots.{slot_of, slots_of, cell_of, objects_of, free_words, spots}
use Rattle.picture.specs.Puts.{Ends, marked_objects}

-- the objects are told by their marks as by their numbers
objects_same : (row row0 live : List ℕ) (k : ℕ) (cs : List Cell)
    → ((i : ℕ) (c : Cell) → nth cs i ≡ some c → (b : Bool) → cell_of b row c ≡ cell_of b row0 c)
    → ((i : ℕ) (c : Cell) → nth cs i ≡ some c → marked_at row c.start ≡ has (suc (k + i)) live)
    → marked_objects row cs ≡ objects_of k live row0 cs
objects_same row row0 live k [] same told = refl
objects_same row row0 live k (c ∷ cs) same told =
    let z : suc (k + 0) ≡ suc k = omega arith in
    let t : marked_at row c.start ≡ has (suc k) live = told 0 c refl ∙ ap (λ (j : ℕ). has j live) z in
    let one = same 0 c refl (marked_at row c.start) ∙ ap (λ (b : Bool). cell_of b row0 c) t in
    let others = objects_same row row0 live (suc k) cs (λ i d e. same (suc i) d e) (λ i d e. told (suc i) d e ∙ ap (λ (j : ℕ). has j live) (let y : suc (k + suc i) ≡ suc (suc k + i) = omega arith in y)) in
    ap₂ (λ (xs ys : List Spot). xs ++ ys) one others

module _ (slots : ℕ) (row0 row : List ℕ) (s : sound slots row0 ≡ true) (r : Remarked (layout slots row0) row0 row) where
  abbrev the_cells : List Cell
  the_cells = layout slots row0

  the_heap : Heap slots row0 the_cells
  the_heap = heap_of slots row0 s

  same_layout : layout slots row ≡ the_cells
  unfolding layout
  same_layout =
      let t = remarked_tiled slots row0 row the_cells the_heap r in
      let f = remarked_free slots row0 row the_cells the_heap r in
      let few = tiled_few row (base slots) (free_of row0) the_cells t in
      let w = the_heap.fits in
      let l = r.len in
      ap (cells (length row) row (base slots)) f ∙ tiled_cells (length row) row (base slots) (free_of row0) the_cells t (omega arith)

  pub still_ends : Ends slots row
  still_ends =
      let t = remarked_tiled slots row0 row the_cells the_heap r in
      let f = remarked_free slots row0 row the_cells the_heap r in
      let w = the_heap.fits in
      let l = r.len in
      record { within = omega arith; tiles = rw (same_layout, f) (tiled_ends row (base slots) (free_of row0) the_cells t) }

  cell_same : (i : ℕ) (c : Cell) → nth the_cells i ≡ some c → (b : Bool) → cell_of b row c ≡ cell_of b row0 c
  cell_same i c e b =
      let p = seg_same row0 row (c.start + 2) c.places (λ k lo hi. remarked_inside slots row0 row the_cells the_heap r i c e k (omega arith) (omega arith)) in
      let w = seg_same row0 row (c.start + 2 + c.places) c.count (λ k lo hi. remarked_inside slots row0 row the_cells the_heap r i c e k (omega arith) (omega arith)) in
      rw (p, w)

  module _ (marks : MarksReached slots row0 row) where
    told : (i : ℕ) (c : Cell) → nth the_cells i ≡ some c → marked_at row c.start ≡ has (suc (0 + i)) (reached (world_of slots row0))
    told i c e =
        let z : suc (0 + i) ≡ suc i = omega arith in
        same_test _ _ (first_has row the_cells i c e) (back i c e) ∙ marks (suc i) ∙ ap (λ (j : ℕ). has j (reached (world_of slots row0))) (sym z)
      where
        back : (i : ℕ) (c : Cell) → nth the_cells i ≡ some c → has (suc i) (marked_from 0 row the_cells) ≡ true → marked_at row c.start ≡ true
        back i c e h =
            let t = has_counted row the_cells 0 (suc i) h in
            let q : t.0 ≡ i = omega (arith, t.2) in
            let d : t.1 ≡ c = some_some (sym t.3 ∙ ap (nth the_cells) q ∙ e) in
            sym (ap (λ (x : Cell). marked_at row x.start) d) ∙ t.4

    pub shows : slots_of slots row ++ marked_objects row (layout slots row) ++ free_words row ≡ spots slots row0
    shows =
        let a : slots_of slots row ≡ slots_of slots row0 = ap (map slot_of) (remarked_slots slots row0 row the_cells the_heap r) in
        let o : marked_objects row (layout slots row) ≡ objects_of 0 (reached (world_of slots row0)) row0 the_cells = ap (marked_objects row) same_layout ∙ objects_same row row0 (reached (world_of slots row0)) 0 the_cells cell_same told in
        let f = remarked_free slots row0 row the_cells the_heap r in
        let n = r.len in
        let w : free_words row ≡ free_words row0 = rw (f, n) in
        rw (a, o, w)
