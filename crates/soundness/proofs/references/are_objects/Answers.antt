-- One object more has references, or one has not.
use Rattle.std.proofs.Common.{ℕ, ◌<◌, List, length, get_or, sym, refl, ap, ◌∙◌, arith}
use Rattle.layout.specs.Cells.{Cell, layout}
use Rattle.layout.specs.Sound.{all_of, ends}
use Rattle.layout.proofs.Rests.{all_end}
use Rattle.store.proofs.Framing.{looked}
use Rattle.soundness.specs.Stamps.{object_answers}
use Rattle.soundness.specs.Costs.{places_in}
use Rattle.soundness.proofs.Going.{rest_first, heads, fewer, fewer_places}
use Rattle.soundness.proofs.Judging.{object_false, object_true, object_ends, ends_still}
use Rattle.soundness.proofs.references.are_objects.Goals as goal

pub loop-at-init : goal.loop-at-init
loop-at-init g c =
    let r = rest_first _ _ _ c.base.result c.requires.walkable c.base.ensures in
    let n = ap length r in
    let p = ap places_in r in
    let row = g.W.Words.row c.args.m.now.words in
    record {
      looks = record { same = refl; frame = record { slots = refl; lender = refl } };
      end = refl;
      few = omega arith;
      tiled = ap (λ (cs : List Cell). ends cs c.base.result c.args.free) r ∙ ap (λ (x : ℕ). ends (layout c.args.m.now.slots row) x c.args.free) c.base.ensures ∙ c.requires.tiled;
      objects = ap (all_of (object_answers c.args.free row c.args.mark)) r;
    }

pub are_references-requires-clause-within : goal.are_references-requires-clause-within
are_references-requires-clause-within g c =
    let i = c.loop-at.invariant in
    let p = c.in-Some.ensures.found in
    let row = g.W.Words.row c.args.m.now.words in
    let at = c.loop-at.objects.at.0 in
    let l : at < c.args.free = omega arith in
    let h = heads row _ at c.in-Some.field-0.header (ap (λ (x : List ℕ). get_or x at 0) i.looks.same) p.value in
    let e = ap length (p.looks.same ∙ i.looks.same) in
    let o = object_ends row at c.args.free _ l h i.tiled in
    let w = c.requires.walkable.within in
    omega arith

pub are_references-requires-clause-few : goal.are_references-requires-clause-few
are_references-requires-clause-few g c =
    let i = c.loop-at.invariant in
    let p = c.in-Some.ensures.found in
    let row = g.W.Words.row c.args.m.now.words in
    let at = c.loop-at.objects.at.0 in
    let l : at < c.args.free = omega arith in
    let h = heads row _ at c.in-Some.field-0.header (ap (λ (x : List ℕ). get_or x at 0) i.looks.same) p.value in
    let f = fewer row at c.args.free _ l h.span in
    let n = fewer_places row at c.args.free _ _ l h.span h.places in
    omega arith

pub returns-then-not-are_references : goal.returns-then-not-are_references
returns-then-not-are_references g c =
    let i = c.loop-at.invariant in
    let p = c.in-Some.ensures.found in
    let r = c.if-not-are_references.ensures in
    let row = g.W.Words.row c.args.m.now.words in
    let at = c.loop-at.objects.at.0 in
    let l : at < c.args.free = omega arith in
    let h = heads row _ at c.in-Some.field-0.header (ap (λ (x : List ℕ). get_or x at 0) i.looks.same) p.value in
    let f = fewer row at c.args.free _ l h.span in
    let n = fewer_places row at c.args.free _ _ l h.span h.places in
    record {
      value = object_false row _ at c.args.free c.args.mark _ _ l (p.looks.same ∙ i.looks.same) h i.objects (rw (p.here, c.references.ensures) at r.value);
      looks = looked r.looks (looked p.looks i.looks);
      touches = omega arith;
    }

pub loop-at-preserved : goal.loop-at-preserved
loop-at-preserved g c =
    let i = c.loop-at.invariant in
    let p = c.in-Some.ensures.found in
    let r = c.if-not-are_references.ensures in
    let row = g.W.Words.row c.args.m.now.words in
    let at = c.loop-at.objects.at.0 in
    let l : at < c.args.free = omega arith in
    let h = heads row _ at c.in-Some.field-0.header (ap (λ (x : List ℕ). get_or x at 0) i.looks.same) p.value in
    let f = fewer row at c.args.free _ l h.span in
    let n = fewer_places row at c.args.free _ _ l h.span h.places in
    record {
      looks = looked r.looks (looked p.looks i.looks);
      end = p.end ∙ i.end;
      few = rw p.behind (omega arith);
      tiled = rw p.behind (ends_still row at c.args.free _ l h i.tiled);
      objects = rw p.behind (object_true row _ at c.args.free c.args.mark _ _ l (p.looks.same ∙ i.looks.same) h i.objects (rw (p.here, c.references.ensures) at r.value));
    }

pub returns-clause-value : goal.returns-clause-value
returns-clause-value g c =
    let i = c.loop-at.invariant in
    let p = c.in_default.ensures.found in
    sym (all_end _ _ _ _ (omega arith)) ∙ i.objects
