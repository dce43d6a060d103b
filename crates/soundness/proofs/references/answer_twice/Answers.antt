-- One mark, and then the other.
use Rattle.std.proofs.Common.{length, ap, ◌∙◌, arith}
use Rattle.store.proofs.Framing.{framed}
use Rattle.soundness.specs.Costs.{places_in}
use Rattle.soundness.proofs.Answering.{after_stamp, first_differs, first_false, second_differs, second_is}
use Rattle.soundness.proofs.references.answer_twice.Goals as goal

pub answer-requires-then-answer : goal.answer-requires-then-answer
answer-requires-then-answer g c =
    let a = c.if-answer.ensures in
    let s = after_stamp _ _ 1 _ _ _ c.requires.tiled a.frame.slots a.after in
    let n = ap length s.objects in
    let k = ap places_in s.objects in
    record { tiled = s.tiling; small = omega arith; few = omega arith }

pub returns-then-answer : goal.returns-then-answer
returns-then-answer g c =
    let a = c.if-answer.ensures in
    let b = c.answer-then-answer.ensures in
    let s = after_stamp _ _ 1 _ _ _ c.requires.tiled a.frame.slots a.after in
    let n = ap length s.objects in
    let k = ap places_in s.objects in
    record {
      value = second_is _ _ _ c.requires.tiled c.requires.clean _ _ s _ b.after _ a.value b.value;
      stays = second_differs _ _ _ c.requires.tiled c.requires.clean _ _ s _ b.after;
      frame = framed b.frame a.frame;
      touches = omega arith;
    }

pub returns-else-answer : goal.returns-else-answer
returns-else-answer g c =
    let a = c.if-answer.ensures in
    let s = after_stamp _ _ 1 _ _ _ c.requires.tiled a.frame.slots a.after in
    record {
      value = c.if-answer.false ∙ first_false _ _ _ c.requires.tiled c.requires.clean a.value;
      stays = first_differs _ _ _ c.requires.tiled c.requires.clean _ _ s;
      frame = a.frame;
      touches = omega arith;
    }
