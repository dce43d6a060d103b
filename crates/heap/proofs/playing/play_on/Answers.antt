-- One call more is played.
use Rattle.std.proofs.Common.{sym, refl, ◌∙◌, arith}
use Rattle.std.proofs.lemmas.List.{length-take-le, take_more}
use Rattle.mutator.specs.declared.Ask.TheVariants.{New}
use Rattle.heap.proofs.Scripts.{played_none, played_more}
use Rattle.heap.proofs.playing.play_on.Goals as goal

pub loop-i-init : goal.loop-i-init
loop-i-init g c = (refl, played_none _ _ _ _ _ _ c.requires.stands)

pub loop-i-preserved : goal.loop-i-preserved
loop-i-preserved g c =
    let inv = c.loop-i.invariant in
    let script = c.args.script.now in
    let i = c.loop-i.i in
    let k = rw inv.0 at c.take_turn.ensures.turns in (
      c.take_turn.ensures.slots ∙ inv.0,
      rw (take_more script i (New 0 0 0) c.loop-i-test.true)
          (played_more _ _ _ _ _ _ _ _ _ _ _ _ _ i (sym (length-take-le i script (omega arith))) c.loop-i-test.true (omega (arith, c.requires.room, c.loop-i.auto.out, c.loop-i-test.true)) inv.1 k c.from.ensures),
    )
