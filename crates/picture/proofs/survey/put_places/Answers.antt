-- One place more is put.
use Rattle.std.proofs.Common.{ℕ, ◌+◌, List, get_or, ap, ◌∙◌}
use Rattle.words.specs.Reference.{address_of}
use Rattle.words.specs.Packing.{target_at}
use Rattle.picture.specs.Spots.{place_of}
use Rattle.picture.proofs.Putting.{put_more, seg_more}
use Rattle.picture.proofs.survey.put_places.Goals as goal

pub loop-i-preserved : goal.loop-i-preserved
loop-i-preserved g c =
    let i = c.loop-i.invariant in
    let row = g.W.Words.row c.args.m.now.words in
    let at = c.args.object.at.0 + 2 in
    let v = c.place-target.ensures.value ∙ ap (λ (r : List ℕ). target_at (address_of (get_or r (at + c.loop-i.i) 0))) i.looks.same in
    put_more c.of.result _ c.push.new.self.items i c.in_ok-push.ensures.items (seg_more (place_of c.args.reached) row at c.loop-i.i c.of.result (rw v at c.of.ensures)) c.place-target.ensures.looks c.place-target.ensures.one
