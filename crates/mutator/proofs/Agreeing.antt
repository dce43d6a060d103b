-- Of alike worlds the parts of a call say the same and leave alike worlds.
use Rattle.std.proofs.Common.{ℕ, zero, suc, ◌+◌, Bool, true, false, leb, List, refl, subst}
use mathlib.Core.Option.{Option, some, none}
use Rattle.world.specs.Base.{pick, opt, nth}
use Rattle.world.specs.World.{Obj, World, with_slot, with_obj, made, size, weight}
use Rattle.world.specs.Alike.{Pair, In, Meet, both_none, both, Meets, none_left, and_these, Match, AlikeBy}
use Rattle.mutator.specs.Outcomes.{Outcome, outcome, slot, holds, granted, allocated}
use Rattle.mutator.specs.Laws.{Agree}
use Rattle.world.proofs.Weighs.{weighs_by, size_match}
use Rattle.world.proofs.Steps.{slot_by, obj_by, made_by}

pub agree_pick : (c : Bool) {s t x y : Outcome} → Agree s t → Agree x y → Agree (pick c s x) (pick c t y)
agree_pick true a b = a
agree_pick false a b = b

pub agree_opt : {A : Type 0} (o : Option A) {s t : Outcome} (f g : A → Outcome) → Agree s t → ((x : A) → Agree (f x) (g x)) → Agree (opt o s f) (opt o t g)
agree_opt none f g a k = a
agree_opt (some x) f g a k = k x

-- the same is said, and the worlds are alike
pub agreed : {ps : List Pair} {u v : World} (c x : ℕ) → AlikeBy ps u v → Agree (outcome c x u) (outcome c x v)
agreed {ps} c x A = record { said = refl; after = record { ps = ps; by = A } }

module _ {ps : List Pair} (u v : World) (A : AlikeBy ps u v) where
  -- a slot, an object, a place that is there or not, in both
  pub agree_nth : {xs ys : List ℕ} → Meets ps xs ys → (i c : ℕ) (f g : ℕ → Outcome) → ((a b : ℕ) → Meet ps a b → Agree (f a) (g b)) → Agree (opt (nth xs i) (outcome c 0 u) f) (opt (nth ys i) (outcome c 0 v) g)
  agree_nth none_left i c f g k = agreed c 0 A
  agree_nth (and_these {a} {b} m r) zero c f g k = k a b m
  agree_nth (and_these m r) (suc i) c f g k = agree_nth r i c f g k

  pub agree_slot : (s : ℕ) (f g : ℕ → Outcome) → ((a b : ℕ) → Meet ps a b → Agree (f a) (g b)) → Agree (slot u s f) (slot v s g)
  agree_slot s f g k = agree_nth A.slots s 2 f g k

  pub agree_holds : {a b : ℕ} → Meet ps a b → (f g : Obj → Outcome) → ((o p : Obj) → In a b ps → Match ps o p → Agree (f o) (g p)) → Agree (holds u a f) (holds v b g)
  agree_holds both_none f g k = agreed 3 0 A
  agree_holds (both {a} {b} i) f g k = let h = A.objs (suc a) (suc b) i in rw (h.2, h.3) (k h.0 h.1 i h.4)

  -- another number in a slot, another object at a pair
  pub agree_put : (t : ℕ) {a b : ℕ} → Meet ps a b → Agree (outcome 1 0 (with_slot u t a)) (outcome 1 0 (with_slot v t b))
  agree_put t m = agreed 1 0 (slot_by u v A t m)

  pub agree_set : {a b : ℕ} (o p : Obj) → In a b ps → Match ps o p → Agree (outcome 1 0 (with_obj u a o)) (outcome 1 0 (with_obj v b p))
  agree_set o p i M = agreed 1 0 (obj_by u v A o p i M)

  -- a call that takes words
  pub agree_granted : (cap n : ℕ) (f g : World → Outcome) → Agree (f u) (g v) → Agree (granted cap u n f) (granted cap v n g)
  agree_granted cap n f g k = rw (weighs_by u v A) (agree_pick (leb (weight v + n) cap) k (agreed 0 0 A))

  pub agree_allocated : (cap s : ℕ) (o p : Obj) → Match ps o p → Agree (allocated cap u s o) (allocated cap v s p)
  agree_allocated cap s o p M =
      subst (λ (n : ℕ). Agree (allocated cap u s o) (granted cap v n (λ x. outcome 1 0 (made x s p)))) (size_match u v A M)
      (agree_granted cap (size o) (λ x. outcome 1 0 (made x s o)) (λ x. outcome 1 0 (made x s p)) (agreed 1 0 (made_by u v A s o p M)))
