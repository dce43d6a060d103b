-- One word more is a reference, or one is none.
use Rattle.std.proofs.Common.{length, ap, arith}
use Rattle.store.proofs.Framing.{looked}
use Rattle.soundness.proofs.Judging.{walkable_still, word_false, word_true}
use Rattle.soundness.proofs.references.are_references.Goals as goal

pub is_reference-requires : goal.is_reference-requires
is_reference-requires g c =
    let i = c.loop-i.invariant in
    let e = ap length i.looks.same in
    record { walkable = walkable_still _ _ _ _ _ c.requires.walkable i.looks.same i.looks.frame.slots; within = omega arith; few = omega arith }

pub returns-then-not-is_reference : goal.returns-then-not-is_reference
returns-then-not-is_reference g c =
    let i = c.loop-i.invariant in
    let k = c.if-not-is_reference.ensures in
    record { value = word_false _ _ _ _ _ _ _ _ c.loop-i-test.true i.looks.same i.references k.value; looks = looked k.looks i.looks; touches = omega arith }

pub loop-i-preserved : goal.loop-i-preserved
loop-i-preserved g c =
    let i = c.loop-i.invariant in
    let k = c.if-not-is_reference.ensures in
    record { looks = looked k.looks i.looks; few = omega arith; references = word_true _ _ _ _ _ _ _ _ c.loop-i-test.true i.looks.same i.references k.value }
