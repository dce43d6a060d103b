-- The tests in their order, each with what was touched so far.
use Rattle.std.proofs.Common.{length, ap, ◌∙◌, arith}
use Rattle.layout.specs.Map.{free_of}
use Rattle.store.proofs.Framing.{framed, looked}
use Rattle.soundness.proofs.Verdicts.{unsound_0, unsound_2, unsound_3, sound_by}
use Rattle.soundness.proofs.Stages.{begins, parses, marked, objects_still, refer_still}
use Rattle.soundness.proofs.is_sound.Goals as goal

pub returns-then-not-has_sentinels : goal.returns-then-not-has_sentinels
returns-then-not-has_sentinels g c =
    let k = c.if-not-has_sentinels.ensures in
    let o = c.requires.open.fits in
    record { value = unsound_0 _ _ k.value; looks = k.looks; touches = omega arith }

pub returns-then-free-limit : goal.returns-then-free-limit
returns-then-free-limit g c =
    let k = c.if-not-has_sentinels.ensures in
    let f = c.free-free.ensures in
    let o = c.requires.open.fits in
    let u = looked f.looks k.looks in
    let e = ap length u.same in
    let r = f.value ∙ ap free_of k.looks.same in
    record { value = unsound_2 _ _ (omega arith); looks = u; touches = omega arith }

pub tiles-requires : goal.tiles-requires
tiles-requires g c =
    let b = begins c.if-not-has_sentinels.ensures.looks c.free-free.ensures.looks c.requires.open c.free-free.ensures.value (omega arith) in
    let o = c.requires.open in
    let n = b.few in
    record { walkable = b.here; few = omega arith }

pub returns-then-not-tiles : goal.returns-then-not-tiles
returns-then-not-tiles g c =
    let b = begins c.if-not-has_sentinels.ensures.looks c.free-free.ensures.looks c.requires.open c.free-free.ensures.value (omega arith) in
    let t = c.if-not-tiles.ensures in
    let n = b.few in
    record { value = unsound_3 _ _ _ _ _ b.looks.same b.looks.frame.slots b.first.free_is t.value; looks = looked t.looks b.looks; touches = omega arith }

pub answer_twice-sound-requires : goal.answer_twice-sound-requires
answer_twice-sound-requires g c =
    let b = begins c.if-not-has_sentinels.ensures.looks c.free-free.ensures.looks c.requires.open c.free-free.ensures.value (omega arith) in
    let t = c.if-not-tiles.ensures in
    let p = parses b t.looks t.value in
    let o = c.requires.open in
    let l = ap length (objects_still t.looks) in
    let k = p.here.cost in
    let n = p.first.tiling.walkable.within in
    let s = p.looks.frame.slots in
    record { tiled = p.here.tiling; clean = p.here.clean; few = omega arith }

pub stamp-requires : goal.stamp-requires
stamp-requires g c =
    let b = begins c.if-not-has_sentinels.ensures.looks c.free-free.ensures.looks c.requires.open c.free-free.ensures.value (omega arith) in
    let t = c.if-not-tiles.ensures in
    let a = c.answer_twice-sound.ensures in
    let p = parses b t.looks t.value in
    let m = marked a.frame a.stays in
    let o = c.requires.open in
    let l = ap length (objects_still t.looks) in
    let d = ap length m.same in
    let k = p.here.cost in
    let n = p.first.tiling.walkable.within in
    let s = p.looks.frame.slots in
    record { walkable = m.walkable; small = omega arith; few = omega arith }

pub returns : goal.returns
returns g c =
    let b = begins c.if-not-has_sentinels.ensures.looks c.free-free.ensures.looks c.requires.open c.free-free.ensures.value (omega arith) in
    let t = c.if-not-tiles.ensures in
    let a = c.answer_twice-sound.ensures in
    let z = c.stamp.ensures in
    let p = parses b t.looks t.value in
    let m = marked a.frame a.stays in
    let l = ap length (objects_still t.looks) in
    let d = ap length m.same in
    let k = p.here.cost in
    let n = p.first.tiling.walkable.within in
    let s = p.looks.frame.slots in
    let i = p.first.tiling.walkable.free_is in
    record {
      value = sound_by _ _ _ c.if-not-has_sentinels.ensures.value (rw i at n) (rw i at p.first.tiling.ends) p.first.clean (refer_still p.looks _ a.value);
      looks = record { same = z.after ∙ m.back ∙ p.looks.same; frame = framed z.frame (framed a.frame p.looks.frame) };
      touches = omega arith;
    }
