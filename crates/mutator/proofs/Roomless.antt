-- Where there is no room and all slots are empty, calls are answered as the table says, and nothing changes.
use Rattle.std.proofs.Common.{◌≡◌, ℕ, zero, suc, ◌+◌, ◌<◌, ◌≤◌, Bool, true, false, ◌&&◌, cond, ltb, List, ◌∷◌, replicate, refl, ap, ◌∙◌, arith}
use mathlib.Core.Option.{Option, some, none}
use Rattle.std.proofs.lemmas.Bool.{lt-leb, ltb-true, ltb-false}
use Rattle.mutator.specs.declared.Ask.{Ask}
use Rattle.mutator.specs.declared.Ask.TheVariants.{New, Get, Set, Read, Write, Copy, Clear, Same, Sizes, Collect}
use Rattle.world.specs.Base.{pick, opt, nth, put}
use Rattle.world.specs.World.{Obj, blank, with_slot, made, weight, size, fresh}
use Rattle.mutator.specs.Script.{Answer, Outcome, told, outcome, slot, allocated, answer}
use Rattle.mutator.specs.TableLaws.{roomless}

pub empty_there : (n s : ℕ) → s < n → nth {A = ℕ} (replicate n 0) s ≡ some 0
empty_there zero s l = absurd (omega arith)
empty_there (suc n) zero l = refl
empty_there (suc n) (suc s) l = empty_there n s (omega arith)

pub empty_none : (n s : ℕ) → n ≤ s → nth {A = ℕ} (replicate n 0) s ≡ none
empty_none zero s l = refl
empty_none (suc n) zero l = absurd (omega arith)
empty_none (suc n) (suc s) l = empty_none n s (omega arith)

abbrev left : ℕ → Bool → Answer → Outcome
left n b a = record { told = cond b a (told 2 0); after = blank n }

in_slot : (n s : ℕ) (f : ℕ → Outcome) (b : Bool) (a : Answer) → f 0 ≡ left n b a → slot (blank n) s f ≡ left n (ltb s n && b) a
in_slot n s f b a h = by_test (ltb s n) refl
  where
    by_test : (t : Bool) → ltb s n ≡ t → slot (blank n) s f ≡ left n (t && b) a
    by_test true e = ap (λ (o : Option ℕ). opt o (outcome 2 0 (blank n)) f) (empty_there n s (ltb-true s n e)) ∙ h
    by_test false e = ap (λ (o : Option ℕ). opt o (outcome 2 0 (blank n)) f) (empty_none n s (omega (arith, ltb-false s n e)))

put_empty : (n s : ℕ) → put {A = ℕ} (replicate n 0) s 0 ≡ replicate n 0
put_empty zero s = refl
put_empty (suc n) zero = refl
put_empty (suc n) (suc s) = ap (λ (xs : List ℕ). 0 ∷ xs) (put_empty n s)

slot_empty : (n s : ℕ) → with_slot (blank n) s 0 ≡ blank n
slot_empty n s = ap (λ (xs : List ℕ). record (blank n) { slots = xs }) (put_empty n s)

emptied : (n t : ℕ) → outcome 1 0 (with_slot (blank n) t 0) ≡ left n true (told 1 0)
emptied n t = ap (outcome 1 0) (slot_empty n t)

-- what takes words is full
full : (n s : ℕ) (o : Obj) → 0 < size o → allocated 0 (blank n) s o ≡ left n true (told 0 0)
full n s o l = ap (λ (b : Bool). pick b (outcome 1 0 (made (blank n) s o)) (outcome 0 0 (blank n))) (lt-leb (weight (blank n) + size o) 0 (omega arith))

pub answered : (n : ℕ) (q : Ask) → answer 0 (blank n) q ≡ record { told = roomless n q; after = blank n }
answered n (New s r k) = in_slot n s _ true (told 0 0) (full n s (fresh r k) (omega arith))
answered n (Get t s i) = in_slot n t _ _ _ (in_slot n s _ true (told 3 0) refl)
answered n (Set s i t) = in_slot n s _ _ _ (in_slot n t _ true (told 3 0) refl)
answered n (Read s i) = in_slot n s _ true (told 3 0) refl
answered n (Write s i x) = in_slot n s _ true (told 3 0) refl
answered n (Copy t s) = in_slot n t _ _ _ (in_slot n s _ true (told 1 0) (emptied n t))
answered n (Clear t) = in_slot n t _ true (told 1 0) (emptied n t)
answered n (Same s t) = in_slot n s _ _ _ (in_slot n t _ true (told 1 1) refl)
answered n (Sizes s) = in_slot n s _ true (told 3 0) refl
answered n Collect = refl
