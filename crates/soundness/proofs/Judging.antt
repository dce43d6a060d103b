-- One word or one object more is judged, and what is then left to judge.
use Rattle.std.proofs.Common.{◌≡◌, ℕ, ◌+◌, ◌-◌, ◌<◌, ◌≤◌, Bool, true, false, ◌&&◌, List, get_or, sym, ap, ◌∙◌, arith}
use Rattle.words.specs.declared.header.Header.{Header}
use Rattle.words.specs.Kinds.{weight, well_formed, is_well_formed}
use Rattle.words.specs.Edges.{references}
use Rattle.layout.specs.Cells.{cell, seg}
use Rattle.layout.specs.Sound.{all_of, ends}
use Rattle.layout.proofs.Rests.{rest, rest_within, ends_step, part_step, all_step}
use Rattle.soundness.specs.Walkable.{Walkable}
use Rattle.soundness.specs.Stamps.{answers, object_answers, header_ok}
use Rattle.soundness.proofs.Going.{Heads}

-- a row that is as it was can still be looked through
pub walkable_still : (slots slots1 : ℕ) (row row1 : List ℕ) (free : ℕ) → Walkable slots row free → row1 ≡ row → slots1 ≡ slots → Walkable slots1 row1 free
walkable_still slots slots1 row row1 free k e f = rw (e, f) k

-- a test of the first and of the others
and_false : (a b x : Bool) (y : Bool) → x ≡ y → x ≡ a && b → a ≡ false → false ≡ y
and_false a b x y p q r = let z : a && b ≡ false = ap (λ (c : Bool). c && b) r in cc

pub and_true : (a b x : Bool) (y : Bool) → x ≡ y → x ≡ a && b → a ≡ true → b ≡ y
and_true a b x y p q r = let z : a && b ≡ b = ap (λ (c : Bool). c && b) r in cc

-- a word that does or does not answer
module _ (row row1 : List ℕ) (free v from n i : ℕ) (y : Bool) (l : i < n) (e : row1 ≡ row) (inv : all_of (answers free row v) (seg row (from + i) (n - i)) ≡ y) where
  word_is : (b : Bool) → b ≡ answers free row1 v (get_or row1 (from + i) 0) → answers free row v (get_or row (from + i) 0) ≡ b
  word_is b q = cc

  pub word_false : false ≡ answers free row1 v (get_or row1 (from + i) 0) → false ≡ y
  word_false q = and_false _ _ _ y inv (part_step (answers free row v) row from n i l) (word_is false q)

  pub word_true : true ≡ answers free row1 v (get_or row1 (from + i) 0) → all_of (answers free row v) (seg row (from + (i + 1)) (n - (i + 1))) ≡ y
  word_true q = and_true _ _ _ y inv (part_step (answers free row v) row from n i l) (word_is true q)

-- an object whose places are or are not references
module _ (row row1 : List ℕ) (at free v : ℕ) (h : Header) (y : Bool) (l : at < free) (e : row1 ≡ row) (k : Heads row at h)
    (inv : all_of (object_answers free row v) (rest row at free) ≡ y) where
  step : all_of (object_answers free row v) (rest row at free) ≡ object_answers free row v (cell at (get_or row at 0)) && all_of (object_answers free row v) (rest row (at + weight h) free)
  step = all_step (object_answers free row v) row at free (weight h) l k.span

  places_are : (b : Bool) → b ≡ all_of (answers free row1 v) (seg row1 (at + 2) (references h)) → object_answers free row v (cell at (get_or row at 0)) ≡ b
  places_are b q =
      let p = ap (λ (x : ℕ). all_of (answers free row v) (seg row (at + 2) x)) k.places in
      let r = ap (λ (x : List ℕ). all_of (answers free x v) (seg x (at + 2) (references h))) e in
      sym p ∙ sym r ∙ sym q

  pub object_false : false ≡ all_of (answers free row1 v) (seg row1 (at + 2) (references h)) → false ≡ y
  object_false q = and_false _ _ _ y inv step (places_are false q)

  pub object_true : true ≡ all_of (answers free row1 v) (seg row1 (at + 2) (references h)) → all_of (object_answers free row v) (rest row (at + weight h) free) ≡ y
  object_true q = and_true _ _ _ y inv step (places_are true q)

-- an object whose header is or is not well formed, and where the others end
module _ (row : List ℕ) (at free : ℕ) (h : Header) (y : Bool) (l : at < free) (k : Heads row at h)
    (inv : (all_of (header_ok row) (rest row at free) && ends (rest row at free) at free) ≡ y) where
  both : (a b c d e : Bool) → b ≡ a && c → d ≡ e → b && d ≡ a && (c && e)
  both true b c d e p q = cc
  both false b c d e p q = ap (λ (x : Bool). x && d) p

  walk : (all_of (header_ok row) (rest row at free) && ends (rest row at free) at free)
      ≡ (is_well_formed (get_or row at 0) && (all_of (header_ok row) (rest row (at + weight h) free) && ends (rest row (at + weight h) free) (at + weight h) free))
  walk = both (is_well_formed (get_or row at 0)) _ _ _ _ (all_step (header_ok row) row at free (weight h) l k.span) (ends_step row at free (weight h) l k.span)

  headed : is_well_formed (get_or row at 0) ≡ well_formed h
  headed = ap well_formed (sym k.whole)

  pub header_false : false ≡ well_formed h → false ≡ y
  header_false u = and_false _ _ _ y inv walk (headed ∙ sym u)

  pub header_true : true ≡ well_formed h → (all_of (header_ok row) (rest row (at + weight h) free) && ends (rest row (at + weight h) free) (at + weight h) free) ≡ y
  header_true u = and_true _ _ _ y inv walk (headed ∙ sym u)

-- the object ends before the free words begin, and the others are as before
module _ (row : List ℕ) (at free : ℕ) (h : Header) (l : at < free) (k : Heads row at h) (t : ends (rest row at free) at free ≡ true) where
  pub object_ends : at + weight h ≤ free
  object_ends = let s = k.span in omega (arith, rest_within row at free l t)

  pub ends_still : ends (rest row (at + weight h) free) (at + weight h) free ≡ true
  ends_still = sym (ends_step row at free (weight h) l k.span) ∙ t
