-- One line more, and then the writer keeps what it has.
use Rattle.std.proofs.Common.{sym, subst}
use Rattle.std.specs.Io.KnownBytes.{Appends}
use Rattle.driver.proofs.Printed.{appends_nothing, appends_on, keeps_on, told_next, told_all, if_ok}
use Rattle.driver.proofs.printing.print.Goals as goal

pub loop-told-init : goal.loop-told-init
loop-told-init g c = appends_nothing _

pub loop-told-preserved : goal.loop-told-preserved
loop-told-preserved g c =
    let told = c.args.told.now in
    let i = c.loop-told.told-index in
    subst (λ v. Appends (g.W.Write.contents c.args.out.now) (g.W.Write.contents c.writeln.new.self) v) (sym (told_next told i _ c.loop-told-test.true)) (appends_on _ _ _ _ _ c.loop-told.invariant c.in_ok-writeln.ensures.bytes)

pub returns : goal.returns
returns g c =
    if_ok _ _ (λ x. keeps_on _ _ _ _ (subst (λ v. Appends (g.W.Write.contents c.args.out.now) (g.W.Write.contents c.loop-told.out) v) (told_all c.args.told.now c.loop-told.told-index c.loop-told-test.false) c.loop-told.invariant) c.flush.ensures.bytes)
