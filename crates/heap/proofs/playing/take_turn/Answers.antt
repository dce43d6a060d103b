-- Where there are too few words, the table says what comes of it.
use Rattle.std.proofs.Common.{sym, refl, ◌∙◌, subst}
use Rattle.heap.specs.declared.playing.Turn.{Turn}
use Rattle.heap.specs.Playing.{Stands, Turns}
use Rattle.heap.proofs.Scripts.{turns_roomless}
use Rattle.heap.proofs.playing.take_turn.Goals as goal

pub returns-clause-turns : goal.returns-clause-turns
returns-clause-turns c =
    let m = c.args.m.now in
    let t : Turn = record { told = c.from.result; touched = 0 } in
    subst (λ b. Turns b c.args.q.now m.slots m.words.words.now m.words.words.now t) (sym c.if-ready.false)
    (turns_roomless c.args.q.now m.slots m.words.words.now t (subst (λ b. Stands b m.slots m.words.words.now) c.if-ready.false c.requires) (c.from.ensures ∙ c.without_words.ensures) refl)
