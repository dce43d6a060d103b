-- From header to header, up to the free words.
use Rattle.std.proofs.Common.{ℕ, List, length, get_or, sym, refl, ap, ◌∙◌, arith}
use Rattle.std.proofs.lemmas.List.{length-set, get_or-set_other}
use Rattle.layout.specs.Cells.{Cell}
use Rattle.layout.proofs.Rests.{rest_end}
use Rattle.store.proofs.Framing.{framed}
use Rattle.soundness.specs.Stamps.{marked_word, stamped}
use Rattle.soundness.proofs.Going.{rest_first, heads, fewer}
use Rattle.soundness.proofs.Stamping.{stamp_step, stamp_write}
use Rattle.soundness.proofs.references.stamp.Goals as goal

pub loop-at-init : goal.loop-at-init
loop-at-init g c =
    let r = rest_first _ _ _ c.base.result c.requires.walkable c.base.ensures in
    let n = ap length r in
    record {
      frame = record { slots = refl; lender = refl };
      end = refl;
      len = refl;
      ahead = λ k l. refl;
      after = ap (λ (cs : List Cell). stamped c.args.mark cs (g.W.Words.row c.args.m.now.words)) r;
      few = omega arith;
    }

pub next-requires-clause-open : goal.next-requires-clause-open
next-requires-clause-open g c = λ l.
    let i = c.loop-at.invariant in
    let w = c.requires.walkable in
    let f = fewer (g.W.Words.row c.args.m.now.words) c.loop-at.objects.at.0 c.args.free _ (omega arith) refl in
    record { fits = rw (i.frame.slots, i.len) w.fits; short = rw i.len w.short; few = omega arith }

pub put_header-requires-clause-open : goal.put_header-requires-clause-open
put_header-requires-clause-open g c =
    let i = c.loop-at.invariant in
    let p = c.in-Some.ensures.found in
    let w = c.requires.walkable in
    let n = ap length p.looks.same ∙ i.len in
    let f = fewer (g.W.Words.row c.args.m.now.words) c.loop-at.objects.at.0 c.args.free _ (omega arith) refl in
    record { fits = rw (p.looks.frame.slots ∙ i.frame.slots, n) w.fits; short = rw n w.short; few = omega arith }

pub loop-at-preserved : goal.loop-at-preserved
loop-at-preserved g c =
    let i = c.loop-at.invariant in
    let p = c.in-Some.ensures.found in
    let put = c.put_header.ensures.writes in
    let one = c.put_header.ensures.one in
    let at = c.loop-at.objects.at.0 in
    let row0 = g.W.Words.row c.args.m.now.words in
    let row1 = g.W.Words.row c.loop-at.m.words in
    let h = heads row0 row1 at c.in-Some.field-0.header (i.ahead at (omega arith)) p.value in
    let w = stamp_write c.args.mark row1 _ _ at _ c.in-Some.field-0.header p.looks.same p.here p.value put.after in
    let f = fewer row0 at c.args.free _ (omega arith) h.span in
    record {
      frame = framed put.frame (framed p.looks.frame i.frame);
      end = p.end ∙ i.end;
      len = ap length w ∙ length-set row1 at (marked_word c.args.mark (get_or row1 at 0)) ∙ i.len;
      ahead = λ k l. ap (λ (x : List ℕ). get_or x k 0) w ∙ get_or-set_other row1 at k (marked_word c.args.mark (get_or row1 at 0)) 0 (λ q. omega arith) ∙ i.ahead k (omega arith);
      after = rw p.behind (stamp_step c.args.mark row0 row1 _ at c.args.free _ (omega arith) h.span w ∙ i.after);
      few = rw p.behind (omega arith);
    }

pub returns-clause-after : goal.returns-clause-after
returns-clause-after g c =
    let i = c.loop-at.invariant in
    let p = c.in_default.ensures.found in
    rw p.same (sym (ap (λ (cs : List Cell). stamped c.args.mark cs (g.W.Words.row c.loop-at.m.words)) (rest_end _ _ _ (omega arith))) ∙ i.after)

pub returns-clause-touches : goal.returns-clause-touches
returns-clause-touches g c =
    let i = c.loop-at.invariant in
    let p = c.in_default.ensures.found in
    let e = ap length (rest_end (g.W.Words.row c.args.m.now.words) c.loop-at.objects.at.0 c.args.free (omega arith)) in
    rw p.same (omega arith)
