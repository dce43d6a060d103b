-- The call at this place has the name, or it is passed; behind the last there is none.
use Rattle.std.proofs.Common.{sym, refl, ap, ◌∙◌, arith}
use Rattle.std.specs.Str.{bytes_eq}
use Rattle.script.proofs.Naming.{pass, stands, nowhere_past}
use Rattle.script.proofs.read.place_of.Goals as goal

pub loop-place-init : goal.loop-place-init
loop-place-init c = refl

pub returns-then-eq : goal.returns-then-eq
returns-then-eq c =
    stands c.args.name.now c.loop-place.place c.in-Some.ask c.loop-place.invariant (sym c.made.ensures ∙ c.in-Some.is) (ap (bytes_eq c.args.name.now) (sym c.entry.ensures.named) ∙ sym c.eq.ensures ∙ c.if-eq.true)

pub loop-place-preserved : goal.loop-place-preserved
loop-place-preserved c =
    pass c.args.name.now c.loop-place.place c.in-Some.ask c.loop-place.invariant (sym c.made.ensures ∙ c.in-Some.is) (ap (bytes_eq c.args.name.now) (sym c.entry.ensures.named) ∙ sym c.eq.ensures ∙ c.if-eq.false)

pub returns : goal.returns
returns c = nowhere_past c.args.name.now c.loop-place.place c.loop-place.invariant (omega arith)
