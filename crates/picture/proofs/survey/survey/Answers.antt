-- What is marked shows what there was before.
use Rattle.std.proofs.Common.{◌≡◌, ℕ, List, ◌++◌, ap, ◌∙◌}
use Rattle.layout.specs.Cells.{layout}
use Rattle.picture.specs.declared.spot.Spot.{Spot}
use Rattle.picture.specs.Spots.{slots_of, free_words}
use Rattle.picture.specs.Puts.{marked_objects}
use Rattle.picture.proofs.Surveyed.{still_ends, shows}
use Rattle.picture.proofs.survey.survey.Goals as goal

pub put_objects-requires-clause-ends : goal.put_objects-requires-clause-ends
put_objects-requires-clause-ends g c =
    let l = c.in_ok-put_slots.ensures.looks in
    let slots = l.frame.slots ∙ c.mark.ensures.frame.slots in
    rw (slots, l.same) (still_ends _ _ _ c.requires.ok c.mark.ensures.remarked)

pub returns : goal.returns
returns g c =
    let slots = c.args.m.now.slots in
    let row = g.W.Words.row c.mark.new.m.words in
    let s = c.mark.ensures.frame.slots in
    let l = c.in_ok-put_slots.ensures.looks in
    let o = c.in_ok-put_objects.ensures.looks in
    let a : slots_of c.mark.new.m.slots row ≡ slots_of slots row = ap (λ (n : ℕ). slots_of n row) s in
    let b : marked_objects (g.W.Words.row c.put_slots.new.m.words) (layout c.put_slots.new.m.slots (g.W.Words.row c.put_slots.new.m.words)) ≡ marked_objects row (layout slots row) =
    ap (λ (r : List ℕ). marked_objects r (layout c.put_slots.new.m.slots r)) l.same ∙ ap (λ (n : ℕ). marked_objects row (layout n row)) (l.frame.slots ∙ s) in
    let f : free_words (g.W.Words.row c.put_objects.new.m.words) ≡ free_words row = ap free_words (o.same ∙ l.same) in
    let first = c.in_ok-put_slots.ensures.spots ∙ ap (λ (xs : List Spot). xs ++ slots_of c.mark.new.m.slots row) c.new-spots.ensures.items ∙ a in
    c.in_ok-put_free.ensures.spots
    ∙ ap (λ (xs : List Spot). xs ++ free_words (g.W.Words.row c.put_objects.new.m.words)) (c.in_ok-put_objects.ensures.spots ∙ ap (λ (xs : List Spot). xs ++ marked_objects (g.W.Words.row c.put_slots.new.m.words) (layout c.put_slots.new.m.slots (g.W.Words.row c.put_slots.new.m.words))) first ∙ ap (λ (xs : List Spot). slots_of slots row ++ xs) b)
    ∙ ap (λ (xs : List Spot). slots_of slots row ++ marked_objects row (layout slots row) ++ xs) f
    ∙ shows slots (g.W.Words.row c.args.m.now.words) row c.requires.ok c.mark.ensures.remarked c.mark.ensures.reached
