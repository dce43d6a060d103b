-- What the parts of a call keep: a valid world that is no heavier, but for the words that the call takes.
use Rattle.std.proofs.Common.{◌≡◌, ℕ, ◌+◌, ◌≤◌, Bool, true, false, leb, ◌⊎◌, List, refl, inl, inr, arith}
use mathlib.Core.Option.{Option, some, none}
use Rattle.std.proofs.lemmas.Bool.{leb-true}
use Rattle.world.specs.Base.{pick, opt, nth, has}
use Rattle.world.specs.World.{Obj, World, obj_at, with_slot, with_obj, made, kept, size, weight}
use Rattle.world.specs.Laws.{Valid}
use Rattle.mutator.specs.Outcomes.{Outcome, outcome, slot, holds, place, granted, allocated}
use Rattle.mutator.specs.Laws.{Keeps}
use Rattle.world.proofs.Members.{has_nth}
use Rattle.world.proofs.Objects.{at_nonzero}
use Rattle.world.proofs.Reaching.{kept_slots, kept_places}
use Rattle.world.proofs.Changes.{More, same_more, slot_more, obj_more, made_more}

pub opt_way : {A C : Type 0} (P : C → Type 0) (o : Option A) {c : C} {f : A → C} → P c → ((x : A) → o ≡ some x → P (f x)) → P (opt o c f)
opt_way P none p k = p
opt_way P (some x) p k = k x refl

pub pick_way : {C : Type 0} (P : C → Type 0) (b : Bool) {x y : C} → (b ≡ true → P x) → P y → P (pick b x y)
pick_way P true p q = p refl
pick_way P false p q = q

module _ (cap : ℕ) (w : World) where
  -- where k words more are taken, and fit; and where none are
  pub heavier : (k c x : ℕ) (v : World) → More k w v → weight w + k ≤ cap → Keeps cap w k (outcome c x v)
  heavier k c x v M l = record { valid = M.valid; grown = M.grown; fits = λ h. omega (arith, M.grown) }

  pub lighter : (k c x : ℕ) (v : World) → More 0 w v → Keeps cap w k (outcome c x v)
  lighter k c x v M = record { valid = M.valid; grown = omega (arith, M.grown); fits = λ h. omega (arith, M.grown) }

  module _ (V : Valid w) where
    pub stay : (k c x : ℕ) → Keeps cap w k (outcome c x w)
    stay k c x = lighter k c x w (same_more w V)

    -- a slot, an object, a place or a word that is there or not
    module _ (k : ℕ) where
      pub in_slot : (s : ℕ) {f : ℕ → Outcome} → ((a : ℕ) → has a w.slots ≡ true → Keeps cap w k (f a)) → Keeps cap w k (slot w s f)
      in_slot s h = opt_way (Keeps cap w k) (nth w.slots s) (stay k 2 0) (λ a e. h a (has_nth w.slots s a e))

      pub in_object : (a : ℕ) {f : Obj → Outcome} → ((o : Obj) → obj_at w a ≡ some o → Keeps cap w k (f o)) → Keeps cap w k (holds w a f)
      in_object a h = opt_way (Keeps cap w k) (obj_at w a) (stay k 3 0) h

      pub in_place : {A : Type 0} (i : ℕ) (xs : List A) {f : A → Outcome} → ((x : A) → nth xs i ≡ some x → Keeps cap w k (f x)) → Keeps cap w k (place w xs i f)
      in_place i xs h = opt_way (Keeps cap w k) (nth xs i) (stay k 4 0) h

    -- a slot that gets none or what is kept
    pub keeps_slot : (k t a : ℕ) → ((a ≡ 0 → ⊥) → has a (kept w) ≡ true) → Keeps cap w k (outcome 1 0 (with_slot w t a))
    keeps_slot k t a h = lighter k 1 0 (with_slot w t a) (slot_more w V t a h)

    -- what an object in a slot holds is kept
    pub held_kept : (a : ℕ) (o : Obj) (x : ℕ) → has a w.slots ≡ true → obj_at w a ≡ some o → has x o.refs ≡ true → (x ≡ 0 → ⊥) → has x (kept w) ≡ true
    held_kept a o x h e m d = kept_places w V a o x (kept_slots w a h (at_nonzero w.objs a o e)) e m d

    -- another object in place of one that a slot holds, no larger, where it holds no more than that and the slots do
    pub keeps_object : (k c y a : ℕ) (o p : Obj) → has a w.slots ≡ true → obj_at w a ≡ some o → size p ≤ size o
        → ((x : ℕ) → has x p.refs ≡ true → (x ≡ 0 → ⊥) → (has x o.refs ≡ true) ⊎ (has x w.slots ≡ true)) → Keeps cap w k (outcome c y (with_obj w a p))
    keeps_object k c y a o p h e l r =
        lighter k c y (with_obj w a p)
        (obj_more w V 0 a o p e (omega arith) (λ x m d. elim (r x m d) [ inl g ↦ held_kept a o x h e g d | inr g ↦ kept_slots w x g d ]))

    -- a call that takes words
    pub keeps_granted : (n : ℕ) (f : World → Outcome) → (weight w + n ≤ cap → Keeps cap w n (f w)) → Keeps cap w n (granted cap w n f)
    keeps_granted n f k = pick_way (Keeps cap w n) (leb (weight w + n) cap) (λ e. k (leb-true (weight w + n) cap e)) (stay n 0 0)

    -- a new object that holds only what slots hold
    pub keeps_allocated : (s : ℕ) (p : Obj) → ((a : ℕ) → has a p.refs ≡ true → (a ≡ 0 → ⊥) → has a w.slots ≡ true) → Keeps cap w (size p) (allocated cap w s p)
    keeps_allocated s p held = keeps_granted (size p) (λ u. outcome 1 0 (made u s p)) (λ l. heavier (size p) 1 0 (made w s p) (made_more w V s p held) l)
