-- From object to object, up to the free words or to a header that is not well formed.
use Rattle.std.proofs.Common.{ℕ, ◌<◌, ◌&&◌, List, length, get_or, sym, refl, ap, ◌∙◌, arith}
use Rattle.layout.specs.Cells.{Cell, layout}
use Rattle.layout.specs.Sound.{all_of, ends}
use Rattle.layout.proofs.Rests.{all_end, ends_end}
use Rattle.store.proofs.Framing.{looked}
use Rattle.soundness.specs.Stamps.{header_ok}
use Rattle.soundness.proofs.Going.{rest_first, heads, fewer}
use Rattle.soundness.proofs.Judging.{walkable_still, and_true, header_false, header_true}
use Rattle.soundness.proofs.tiles.Goals as goal

pub loop-header-init : goal.loop-header-init
loop-header-init g c =
    let r = rest_first _ _ _ c.base.result c.requires.walkable c.base.ensures in
    let n = ap length r in
    let row = g.W.Words.row c.args.m.now.words in
    let cs = layout c.args.m.now.slots row in
    record {
      looks = record { same = refl; frame = record { slots = refl; lender = refl } };
      end = refl;
      few = omega arith;
      tiling = ap (λ (ds : List Cell). all_of (header_ok row) ds && ends ds c.base.result c.args.free) r ∙ ap (λ (x : ℕ). all_of (header_ok row) cs && ends cs x c.args.free) c.base.ensures;
    }

pub next-requires-clause-open : goal.next-requires-clause-open
next-requires-clause-open g c = λ l.
    let i = c.loop-header.invariant in
    let k = walkable_still _ _ _ _ _ c.requires.walkable i.looks.same i.looks.frame.slots in
    let f = fewer (g.W.Words.row c.args.m.now.words) c.loop-header.objects.at.0 c.args.free _ (omega arith) refl in
    record { fits = k.fits; short = k.short; few = omega arith }

pub returns-then-not-is_well_formed : goal.returns-then-not-is_well_formed
returns-then-not-is_well_formed g c =
    let i = c.loop-header.invariant in
    let p = c.in-Some.ensures.found in
    let row = g.W.Words.row c.args.m.now.words in
    let at = c.loop-header.objects.at.0 in
    let l : at < c.args.free = omega arith in
    let h = heads row _ at c.in-Some.field-0.header (ap (λ (x : List ℕ). get_or x at 0) i.looks.same) p.value in
    let f = fewer row at c.args.free _ l h.span in
    record { value = header_false row at c.args.free _ _ l h i.tiling c.if-not-is_well_formed.ensures; looks = looked p.looks i.looks; touches = omega arith }

pub loop-header-preserved : goal.loop-header-preserved
loop-header-preserved g c =
    let i = c.loop-header.invariant in
    let p = c.in-Some.ensures.found in
    let row = g.W.Words.row c.args.m.now.words in
    let at = c.loop-header.objects.at.0 in
    let l : at < c.args.free = omega arith in
    let h = heads row _ at c.in-Some.field-0.header (ap (λ (x : List ℕ). get_or x at 0) i.looks.same) p.value in
    let f = fewer row at c.args.free _ l h.span in
    record {
      looks = looked p.looks i.looks;
      end = p.end ∙ i.end;
      few = rw p.behind (omega arith);
      tiling = rw p.behind (header_true row at c.args.free _ _ l h i.tiling c.if-not-is_well_formed.ensures);
    }

pub returns : goal.returns
returns g c =
    let i = c.loop-header.invariant in
    let p = c.in_default.ensures.found in
    rw (p.same, p.stays) (record { value = sym (ends_end _ _ _ (omega arith)) ∙ and_true _ _ _ _ i.tiling refl (all_end _ _ _ _ (omega arith)); looks = i.looks; touches = omega arith })
