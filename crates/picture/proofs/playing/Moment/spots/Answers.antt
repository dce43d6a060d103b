-- From the empty heap over the calls and the sweep.
use Rattle.std.proofs.Common.{◌≡◌, ◌+◌, ◌≤◌, length, sym, ◌∙◌, arith}
use Rattle.std.proofs.lemmas.Bool.{leb-true}
use Rattle.layout.specs.Cells.{base}
use Rattle.picture.proofs.Calls.{shows}
use Rattle.picture.proofs.playing.Moment.spots.Goals as goal

pub returns : goal.returns
returns c =
    let slots = c.args.self.now.slots in
    let s1 : c.start.new.m.slots ≡ slots = c.start.ensures.frame.slots in
    let s2 : c.play_on.new.m.slots ≡ slots = c.play_on.ensures.slots ∙ s1 in
    let s3 : c.sweep.new.m.slots ≡ slots = c.sweep.ensures.frame.slots ∙ s2 in
    let p = rw s1 at c.play_on.ensures.played in
    let w = rw s2 at c.sweep.ensures.sweeps in
    let b = rw s1 at c.start.ensures.empty in
    let e = rw s3 at c.in_ok-spots.ensures in
    let f : base slots ≤ length c.args.mem.now = omega (arith, leb-true (64 + slots) _ (sym c.fits.ensures ∙ c.if-not-fits.false)) in
    shows _ _ _ slots c.args.self.now.calls.now c.args.self.now.collected _ _ _ _ _ c.in_ok-spots.spots.items f c.start.ensures.long b p w e
