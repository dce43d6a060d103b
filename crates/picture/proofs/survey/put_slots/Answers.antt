-- One slot more is put.
use Rattle.std.proofs.Common.{ℕ, ◌+◌, List, get_or, ap, ◌∙◌}
use Rattle.words.specs.Reference.{address_of}
use Rattle.words.specs.Packing.{target_at}
use Rattle.picture.specs.declared.spot.Spot.TheVariants.{Slot}
use Rattle.picture.specs.Spots.{slot_of}
use Rattle.picture.proofs.Putting.{put_more, seg_more}
use Rattle.picture.proofs.survey.put_slots.Goals as goal

pub loop-s-preserved : goal.loop-s-preserved
loop-s-preserved g c =
    let i = c.loop-s.invariant in
    let row = g.W.Words.row c.args.m.now.words in
    let e = ap Slot (c.slot-held.ensures.value ∙ ap (λ (r : List ℕ). target_at (address_of (get_or r (64 + c.loop-s.s) 0))) i.looks.same) in
    put_more (Slot c.slot-held.result) _ c.push.new.self.items i c.in_ok-push.ensures.items (seg_more slot_of row 64 c.loop-s.s _ e) c.slot-held.ensures.looks c.slot-held.ensures.one
