-- The stamped row has the same objects, and then all slots and all places are looked at.
use Rattle.std.proofs.Common.{length, ap, ◌∙◌, arith}
use Rattle.store.proofs.Framing.{framed}
use Rattle.soundness.specs.Costs.{places_in}
use Rattle.soundness.proofs.Answering.{after_stamp, looked_stamp, slots_false, slots_true}
use Rattle.soundness.proofs.references.answer.Goals as goal

pub are_references-requires-clause-walkable : goal.are_references-requires-clause-walkable
are_references-requires-clause-walkable g c = (after_stamp _ _ _ _ _ _ c.requires.tiled c.stamp.ensures.frame.slots c.stamp.ensures.after).tiling.walkable

pub are_references-requires-clause-within : goal.are_references-requires-clause-within
are_references-requires-clause-within g c = let w = (after_stamp _ _ _ _ _ _ c.requires.tiled c.stamp.ensures.frame.slots c.stamp.ensures.after).tiling.walkable.fits in omega arith

pub are_objects-requires : goal.are_objects-requires
are_objects-requires g c =
    let p = c.stamp.ensures in
    let r = c.if-not-are_references.ensures in
    let s = looked_stamp _ _ _ _ _ _ _ _ (after_stamp _ _ _ _ _ _ c.requires.tiled p.frame.slots p.after) r.looks.frame.slots r.looks.same in
    let n = ap length s.objects in
    let k = ap places_in s.objects in
    record { walkable = s.tiling.walkable; tiled = s.tiling.ends; few = omega arith }

pub returns-then-not-are_references : goal.returns-then-not-are_references
returns-then-not-are_references g c =
    let p = c.stamp.ensures in
    let r = c.if-not-are_references.ensures in
    let s = after_stamp _ _ _ _ _ _ c.requires.tiled p.frame.slots p.after in
    record { value = slots_false _ _ _ _ _ _ s r.value; after = r.looks.same ∙ p.after; frame = framed r.looks.frame p.frame; touches = omega arith }

pub returns : goal.returns
returns g c =
    let p = c.stamp.ensures in
    let r = c.if-not-are_references.ensures in
    let o = c.are_objects.ensures in
    let s = after_stamp _ _ _ _ _ _ c.requires.tiled p.frame.slots p.after in
    let z = looked_stamp _ _ _ _ _ _ _ _ s r.looks.frame.slots r.looks.same in
    let n = ap length z.objects in
    let k = ap places_in z.objects in
    record {
      value = slots_true _ _ _ _ _ _ s _ _ _ r.value z o.value;
      after = o.looks.same ∙ r.looks.same ∙ p.after;
      frame = framed o.looks.frame (framed r.looks.frame p.frame);
      touches = omega arith;
    }
