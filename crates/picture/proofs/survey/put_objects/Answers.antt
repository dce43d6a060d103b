-- From object to object, up to the free words.
use Rattle.std.proofs.Common.{◌≡◌, ℕ, ◌≤◌, List, ◌++◌, length, sym, refl, ap, ◌∙◌, arith}
use Rattle.std.proofs.lemmas.Bool.{eqb-true}
use Rattle.layout.specs.Cells.{base, free_of, layout}
use Rattle.layout.proofs.Rests.{rest_within, ends_end}
use Rattle.store.proofs.Framing.{looked}
use Rattle.picture.specs.Puts.{Ends, marked_objects}
use Rattle.picture.proofs.Putting.{going_none, heads, going_more, going_last}
use Rattle.picture.proofs.survey.put_objects.Goals as goal

pub loop-object-init : goal.loop-object-init
loop-object-init g c =
    let f = c.free-end.ensures in
    let ok : Ends c.args.m.now.slots (g.W.Words.row c.free-end.new.self.words) = rw f.looks.same c.requires.ends in
    let b = c.base.ensures in
    let s = f.looks.frame.slots in
    let at : c.base.result ≡ base c.args.m.now.slots = omega arith in
    going_none c.args.m.now.slots c.args.spots.now.items c.free-end.new.self _ c.free-end.result ok (f.value ∙ ap free_of (sym f.looks.same)) at refl

pub next-requires-clause-open : goal.next-requires-clause-open
next-requires-clause-open g c l =
    let i = c.loop-object.invariant in
    let o = c.requires.open in
    let w = c.requires.ends.within in
    let f = c.free-end.ensures in
    let n = ap length (i.looks.same ∙ f.looks.same) in
    let s = i.looks.frame.slots ∙ f.looks.frame.slots in
    let t = i.few in
    let u = f.one in
    let e = i.end in
    let v = f.value in
    record { fits = omega arith; short = omega arith; few = omega arith }

pub next-requires-clause-within : goal.next-requires-clause-within
next-requires-clause-within g c =
    let i = c.loop-object.invariant in
    let w = c.requires.ends.within in
    let f = c.free-end.ensures in
    let n = ap length (i.looks.same ∙ f.looks.same) in
    let e = i.end in
    let v = f.value in
    omega arith

pub put_object-requires-clause-open : goal.put_object-requires-clause-open
put_object-requires-clause-open g c =
    let i = c.loop-object.invariant in
    let p = c.in-Some.ensures.found in
    let h = heads i p in
    let r = rest_within _ _ _ h.before i.tiles in
    let o = c.requires.open in
    let w = c.requires.ends.within in
    let f = c.free-end.ensures in
    let n = ap length (p.looks.same ∙ i.looks.same ∙ f.looks.same) in
    let s = p.looks.frame.slots ∙ i.looks.frame.slots ∙ f.looks.frame.slots in
    let t = i.few in
    let u = f.one in
    let q = p.one in
    let v = f.value in
    let k = h.spans in
    record { fits = omega arith; short = omega arith; few = omega arith }

pub put_object-requires-clause-within : goal.put_object-requires-clause-within
put_object-requires-clause-within g c =
    let i = c.loop-object.invariant in
    let p = c.in-Some.ensures.found in
    let h = heads i p in
    let r = rest_within _ _ _ h.before i.tiles in
    let w = c.requires.ends.within in
    let f = c.free-end.ensures in
    let n = ap length (p.looks.same ∙ i.looks.same ∙ f.looks.same) in
    let v = f.value in
    let k = h.spans in
    let a = p.here in
    omega arith

pub loop-object-preserved : goal.loop-object-preserved
loop-object-preserved g c = going_more c.loop-object.invariant c.in-Some.ensures.found c.in_ok-put_object.ensures

pub returns : goal.returns
returns g c =
    let i = c.loop-object.invariant in
    let p = c.in_default.ensures.found in
    let f = c.free-end.ensures in
    let slots = c.args.m.now.slots in
    let old = c.args.spots.now.items in
    let e = i.end in
    let le : c.free-end.result ≤ c.loop-object.objects.at.0 = omega (arith, p.ended) in
    let at = eqb-true _ _ (sym (ends_end _ _ _ le) ∙ i.tiles) in
    let w = c.requires.ends.within in
    let t = i.few in
    let u = f.one in
    let v = f.value in
    rw p.same (record {
      spots = going_last i le ∙ ap (λ (r : List ℕ). old ++ marked_objects r (layout slots r)) f.looks.same;
      looks = looked i.looks f.looks;
      touches = omega arith;
    })
