-- What is known of a manager after each stage: where the free words begin, its objects, and the mark that its headers are left with.
use Rattle.std.proofs.Common.{◌≡◌, ℕ, ◌+◌, ◌*◌, ◌≤◌, Bool, true, ◌&&◌, List, length, sym, ap, ◌∙◌, arith}
use Rattle.std.proofs.lemmas.Bool.{and_parts}
use Rattle.words.specs.declared.Words.{Ghosts}
use Rattle.layout.specs.Map.{base, free_of}
use Rattle.layout.specs.Cells.{layout}
use Rattle.layout.specs.Sound.{all_of, ends}
use Rattle.store.specs.declared.manager.Manager.{Manager}
use Rattle.store.specs.Open.{Open}
use Rattle.store.specs.Frame.{Frame}
use Rattle.store.specs.Accesses.{Looks}
use Rattle.store.proofs.Framing.{looked}
use Rattle.soundness.specs.Walkable.{Walkable, Tiling, objects}
use Rattle.soundness.specs.Stamps.{DiffersInMarks, stamped, header_ok, all_refer}
use Rattle.soundness.specs.Costs.{places_in}
use Rattle.soundness.proofs.Going.{few_objects, tiled_cost}
use Rattle.soundness.proofs.Judging.{walkable_still}
use Rattle.soundness.proofs.Stamping.{tiled_of}

layout_still : (slots slots1 : ℕ) (row row1 : List ℕ) → row1 ≡ row → slots1 ≡ slots → layout slots1 row1 ≡ layout slots row
layout_still slots slots1 row row1 e f = cc

-- a manager that was only looked at since has the same objects
pub objects_still : {W : Type 0} {w : Ghosts W} {l m : Manager W} → Looks w l m → objects w m ≡ objects w l
objects_still k = layout_still _ _ _ _ k.same k.frame.slots

-- it is known where the free words begin
pub record Begins {W : Type 0} (w : Ghosts W) (l m : Manager W) (free : ℕ) : Type 0 where
  pub looks : Looks w l m
  pub first : Walkable l.slots (w.row l.words) free
  pub here : Walkable m.slots (w.row m.words) free
  pub few : base l.slots + length (objects w m) ≤ length (w.row l.words)

few_within : (slots slots1 : ℕ) (row row1 : List ℕ) (free : ℕ) → Walkable slots row free → row1 ≡ row → slots1 ≡ slots → base slots + length (layout slots1 row1) ≤ length row
few_within slots slots1 row row1 free k e f =
    let n = few_objects slots row in
    let a = k.fits in
    let b = k.free_is in
    let d = k.within in
    rw (e, f) (omega arith)

pub begins : {W : Type 0} {w : Ghosts W} {l k m : Manager W} {budget free : ℕ} → Looks w l k → Looks w k m → Open budget l.slots (w.row l.words) (w.touched l.words)
    → free ≡ free_of (w.row k.words) → free ≤ length (w.row m.words) → Begins w l m free
begins {w = w} {l = l} {free = free} a b o e n =
    let u = looked b a in
    let v = ap length u.same in
    let f : Walkable l.slots (w.row l.words) free = record { fits = o.fits; short = o.short; free_is = e ∙ ap free_of a.same; within = omega (arith, n, v) } in
    record { looks = u; first = f; here = walkable_still _ _ _ _ _ f u.same u.frame.slots; few = few_within _ _ _ _ _ f u.same u.frame.slots }

-- the objects of a row have well-formed headers and end where the free words begin; with what they cost
pub record Parsed (slots : ℕ) (row : List ℕ) (free : ℕ) : Type 0 where
  pub tiling : Tiling slots row free
  pub clean : all_of (header_ok row) (layout slots row) ≡ true
  pub cost : base slots + (2 * length (layout slots row) + places_in (layout slots row)) ≤ free

parsed_first : (slots slots1 : ℕ) (row row1 : List ℕ) (free : ℕ) → Walkable slots row free → row1 ≡ row → slots1 ≡ slots
    → true ≡ all_of (header_ok row1) (layout slots1 row1) && ends (layout slots1 row1) (base slots1) free → Parsed slots row free
parsed_first slots slots1 row row1 free k e f h =
    let p = and_parts (all_of (header_ok row) (layout slots row)) (ends (layout slots row) (base slots) free) (sym (rw (e, f) at h)) in
    let t : Tiling slots row free = record { walkable = k; ends = p.1 } in
    record { tiling = t; clean = p.0; cost = tiled_cost row (base slots) free (layout slots row) (tiled_of slots row free t) }

parsed_still : (slots slots1 : ℕ) (row row1 : List ℕ) (free : ℕ) → Parsed slots row free → row1 ≡ row → slots1 ≡ slots → Parsed slots1 row1 free
parsed_still slots slots1 row row1 free k e f = rw (e, f) k

-- so they were at first, and are here
pub record Parses {W : Type 0} (w : Ghosts W) (l m : Manager W) (free : ℕ) : Type 0 where
  pub looks : Looks w l m
  pub first : Parsed l.slots (w.row l.words) free
  pub here : Parsed m.slots (w.row m.words) free

pub parses : {W : Type 0} {w : Ghosts W} {l k m : Manager W} {free : ℕ} → Begins w l k free → Looks w k m
    → true ≡ all_of (header_ok (w.row k.words)) (objects w k) && ends (objects w k) (base k.slots) free → Parses w l m free
parses b a h =
    let u = looked a b.looks in
    let p = parsed_first _ _ _ _ _ b.first b.looks.same b.looks.frame.slots h in
    record { looks = u; first = p; here = parsed_still _ _ _ _ _ p u.same u.frame.slots }

-- what then is said of all references is said of those at first
pub refer_still : {W : Type 0} {w : Ghosts W} {l m : Manager W} → Looks w l m → (b : Bool) → b ≡ all_refer m.slots (objects w m) (w.row m.words) → b ≡ all_refer l.slots (objects w l) (w.row l.words)
refer_still k b h = refers _ _ _ _ k.same k.frame.slots b h
  where
    refers : (slots slots1 : ℕ) (row row1 : List ℕ) → row1 ≡ row → slots1 ≡ slots → (b : Bool) → b ≡ all_refer slots1 (layout slots1 row1) row1 → b ≡ all_refer slots (layout slots row) row
    refers slots slots1 row row1 e f b h = rw (e, f) at h

-- a manager of which only marks differ
pub record Marked {W : Type 0} (w : Ghosts W) (m n : Manager W) (free : ℕ) : Type 0 where
  pub walkable : Walkable n.slots (w.row n.words) free
  pub same : objects w n ≡ objects w m
  pub back : stamped 0 (objects w n) (w.row n.words) ≡ w.row m.words

pub marked : {W : Type 0} {w : Ghosts W} {m n : Manager W} {free : ℕ} → Frame w m n → DiffersInMarks m.slots free (w.row m.words) (w.row n.words) → Marked w m n free
marked f d = record { walkable = rw f.slots d.walkable; same = rw f.slots d.objects; back = rw f.slots d.back }
