-- Spots that are put behind others: one more, and an object more.
use Rattle.std.proofs.Common.{◌≡◌, ℕ, zero, suc, ◌+◌, ◌<◌, ◌≤◌, Bool, true, not, eqb, ltb, List, [], ◌∷◌, ◌++◌, map, get_or, replicate, sym, refl, ap, ◌∙◌, subst, inl, inr, append_assoc, append-nil, add-one, arith}
use Rattle.std.proofs.lemmas.Bool.{cases_eq, eq-eqb, ne_eqb, lt-ltb, le-ltb}
use Rattle.words.specs.declared.Words.{Ghosts}
use Rattle.words.specs.declared.header.Header.{Header}
use Rattle.words.specs.Header.{places_of, words_of, mark_of, unpacked}
use Rattle.layout.specs.Cells.{Cell, cell, span, base, free_of, layout, seg}
use Rattle.layout.specs.Sound.{ends}
use Rattle.layout.specs.Marks.{marked_at}
use Rattle.layout.proofs.Rests.{rest, rest_layout, rest_step, rest_end, ends_step}
use Rattle.store.specs.declared.cursor.Objects.{Objects}
use Rattle.store.specs.declared.manager.Manager.{Manager}
use Rattle.store.specs.declared.objects.Object.{Object}
use Rattle.store.specs.Cursor.{Passes}
use Rattle.store.specs.Frame.{Touches, TouchesAtMost}
use Rattle.store.specs.Accesses.{Looks}
use Rattle.store.proofs.Framing.{looked}
use Rattle.picture.specs.declared.spot.Spot.{Spot}
use Rattle.picture.specs.Spots.{cell_of}
use Rattle.picture.specs.Puts.{Ends, Puts, marked_objects}

pub put_none : {W : Type 0} {w : Ghosts W} (old : List Spot) (m : Manager W) → Puts w 0 [] old old m m
put_none old m = record { spots = sym (append-nil old); looks = record { same = refl; frame = record { slots = refl; lender = refl } }; touches = omega arith }

pub put_more : {W : Type 0} {w : Ghosts W} {n : ℕ} {these old new : List Spot} {l m k : Manager W} (x : Spot) (more new' : List Spot)
    → Puts w n these old new l m → new' ≡ new ++ x ∷ [] → more ≡ these ++ x ∷ [] → Looks w m k → Touches 1 w m k → Puts w (n + 1) more old new' l k
put_more {these = these} {old = old} x more new' p e f s t = record {
  spots = e ∙ ap (λ (xs : List Spot). xs ++ x ∷ []) p.spots ∙ append_assoc old these (x ∷ []) ∙ ap (λ (xs : List Spot). old ++ xs) (sym f);
  looks = looked s p.looks;
  touches = omega arith;
}

pub put_both : {W : Type 0} {w : Ghosts W} {n j : ℕ} {these those old mid new : List Spot} {l m k : Manager W}
    → Puts w n these old mid l m → Puts w j those mid new m k → Puts w (n + j) (these ++ those) old new l k
put_both {these = these} {those = those} {old = old} p q = record {
  spots = q.spots ∙ ap (λ (xs : List Spot). xs ++ those) p.spots ∙ append_assoc old these those;
  looks = looked q.looks p.looks;
  touches = omega arith;
}

-- one word more of a row
pub seg_more : (f : ℕ → Spot) (row : List ℕ) (at i : ℕ) (x : Spot) → x ≡ f (get_or row (at + i) 0) → map f (seg row at (i + 1)) ≡ map f (seg row at i) ++ x ∷ []
seg_more f row at i x e = rw (add-one, e) (by at i)
  where
    by : (at i : ℕ) → map f (seg row at (suc i)) ≡ map f (seg row at i) ++ f (get_or row (at + i) 0) ∷ []
    by at zero = let e : at + 0 ≡ at = omega arith in rw e
    by at (suc i) =
        let e : at + suc i ≡ suc at + i = omega arith in
        rw e (ap (λ (xs : List Spot). f (get_or row at 0) ∷ xs) (by (suc at) i))

pub replicate_more : (n : ℕ) (x : Spot) → replicate (n + 1) x ≡ replicate n x ++ x ∷ []
replicate_more n x = rw add-one (by n)
  where
    by : (n : ℕ) → replicate (suc n) x ≡ replicate n x ++ x ∷ []
    by zero = refl
    by (suc n) = ap (λ (xs : List Spot). x ∷ xs) (by n)

-- an object as its header says, and as the row does
above : (n : ℕ) → not (eqb n 0) ≡ ltb 0 n
above n = elim (cases_eq n 0) [ inl e ↦ rw (eq-eqb n 0 e, le-ltb 0 n (omega arith)) | inr d ↦ rw (ne_eqb n 0 d, lt-ltb 0 n (omega arith)) ]

pub cell_is : (row row' : List ℕ) (at start : ℕ) (h : Header) → row' ≡ row → start ≡ at → h ≡ unpacked (get_or row at 0)
    → cell_of (not (eqb h.mark 0)) row' (record { start = start; places = h.places; count = h.words }) ≡ cell_of (marked_at row at) row (cell at (get_or row at 0))
cell_is row row' at start h e s q =
    let c = cell at (get_or row at 0) in
    let k : cell_of (not (eqb (mark_of (get_or row at 0)) 0)) row c ≡ cell_of (marked_at row at) row c = ap (λ (b : Bool). cell_of b row c) (above (mark_of (get_or row at 0))) in
    ap (λ (r : List ℕ). cell_of (not (eqb h.mark 0)) r (record { start = start; places = h.places; count = h.words })) e
    ∙ ap (λ (a : ℕ). cell_of (not (eqb h.mark 0)) row (record { start = a; places = h.places; count = h.words })) s
    ∙ subst (λ (x : Header). cell_of (not (eqb x.mark 0)) row (record { start = at; places = x.places; count = x.words }) ≡ cell_of (marked_at row at) row c) (sym q) k

-- the objects before the cursor are put, and those from there on are to come
pub record Going {W : Type 0} (w : Ghosts W) (slots : ℕ) (old new : List Spot) (m m' : Manager W) (c : Objects) (free : ℕ) : Type 0 where
  pub looks : Looks w m m'
  pub end : c.end ≡ free
  pub few : TouchesAtMost c.at.0 w m m'
  pub tiles : ends (rest (w.row m.words) c.at.0 free) c.at.0 free ≡ true
  pub spots : new ++ marked_objects (w.row m.words) (rest (w.row m.words) c.at.0 free) ≡ old ++ marked_objects (w.row m.words) (layout slots (w.row m.words))

pub going_none : {W : Type 0} {w : Ghosts W} (slots : ℕ) (old : List Spot) (m : Manager W) (c : Objects) (free : ℕ) → Ends slots (w.row m.words) → free ≡ free_of (w.row m.words) → c.at.0 ≡ base slots → c.end ≡ free → Going w slots old old m m c free
going_none {w = w} slots old m c free ok f b e =
    let r = rest_layout slots (w.row m.words) ok.within in
    let l : rest (w.row m.words) c.at.0 free ≡ layout slots (w.row m.words) = rw (b, f, r) in
    record {
      looks = record { same = refl; frame = record { slots = refl; lender = refl } };
      end = e;
      few = omega arith;
      tiles = rw (l, b, f) ok.tiles;
      spots = rw l;
    }

-- the next header
pub record Heads (row : List ℕ) (at free : ℕ) (h : Header) : Type 0 where
  pub before : at < free
  pub is : h ≡ unpacked (get_or row at 0)
  pub spans : 2 + (h.places + h.words) ≡ span (cell at (get_or row at 0))

pub heads : {W : Type 0} {w : Ghosts W} {slots : ℕ} {old new : List Spot} {l m n : Manager W} {c c' : Objects} {o : Object} {free : ℕ} → Going w slots old new l m c free → Passes w c c' m n o → Heads (w.row l.words) c.at.0 free o.header
heads {w = w} {l = l} {c = c} {o = o} g p =
    let q : o.header ≡ unpacked (get_or (w.row l.words) c.at.0 0) = p.value ∙ ap (λ (r : List ℕ). unpacked (get_or r c.at.0 0)) g.looks.same in
    let r : o.header.places ≡ places_of (get_or (w.row l.words) c.at.0 0) = ap (λ (x : Header). x.places) q in
    let n : o.header.words ≡ words_of (get_or (w.row l.words) c.at.0 0) = ap (λ (x : Header). x.words) q in
    record { before = (let e = g.end in let b = p.before in omega arith); is = q; spans = omega arith }

pub going_more : {W : Type 0} {w : Ghosts W} {slots : ℕ} {old new new' : List Spot} {l m n k : Manager W} {c c' : Objects} {o : Object} {free : ℕ} → Going w slots old new l m c free → Passes w c c' m n o
    → Puts w (o.header.places + o.header.words) (cell_of (not (eqb o.header.mark 0)) (w.row n.words) (record { start = o.at.0; places = o.header.places; count = o.header.words })) new new' n k
    → Going w slots old new' l k c' free
going_more {w = w} {new = new} {l = l} {n = n} {c = c} {c' = c'} {o = o} {free = free} g p put =
    let row = w.row l.words in
    let h = heads g p in
    let there = looked p.looks g.looks in
    let cs = rest row (c.at.0 + (2 + (o.header.places + o.header.words))) free in
    let these = cell_of (not (eqb o.header.mark 0)) (w.row n.words) (record { start = o.at.0; places = o.header.places; count = o.header.words }) in
    let this = cell_is row _ c.at.0 o.at.0 o.header there.same p.here h.is in
    let next : marked_objects row (rest row c.at.0 free) ≡ cell_of (marked_at row c.at.0) row (cell c.at.0 (get_or row c.at.0 0)) ++ marked_objects row cs =
    ap (marked_objects row) (rest_step row c.at.0 free h.before) ∙ ap (λ (j : ℕ). cell_of (marked_at row c.at.0) row (cell c.at.0 (get_or row c.at.0 0)) ++ marked_objects row (rest row (c.at.0 + j) free)) (sym h.spans) in
    record {
      looks = looked put.looks there;
      end = p.end ∙ g.end;
      few = (let b = p.behind in let t = put.touches in let u = p.one in let f = g.few in omega arith);
      tiles = rw p.behind (sym (ends_step row c.at.0 free _ h.before h.spans) ∙ g.tiles);
      spots = rw p.behind
          (ap (λ (xs : List Spot). xs ++ marked_objects row cs) put.spots
          ∙ append_assoc new these (marked_objects row cs)
          ∙ ap (λ (xs : List Spot). new ++ (xs ++ marked_objects row cs)) this
          ∙ ap (λ (xs : List Spot). new ++ xs) (sym next)
          ∙ g.spots);
    }

pub going_last : {W : Type 0} {w : Ghosts W} {slots : ℕ} {old new : List Spot} {l m : Manager W} {c : Objects} {free : ℕ} → Going w slots old new l m c free → free ≤ c.at.0 → new ≡ old ++ marked_objects (w.row l.words) (layout slots (w.row l.words))
going_last {w = w} {new = new} {l = l} {c = c} {free = free} g le =
    let r = rest_end (w.row l.words) c.at.0 free le in
    sym (append-nil new) ∙ ap (λ (cs : List Cell). new ++ marked_objects (w.row l.words) cs) (sym r) ∙ g.spots
