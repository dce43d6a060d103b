-- A slot that is not there is said; else what the table says.
use Rattle.std.proofs.Common.{sym, ap, ◌∙◌}
use Rattle.mutator.specs.Refusals.{said}
use Rattle.mutator.specs.TableLaws.{all_there}
use Rattle.heap.proofs.Scripts.{roomless_there, roomless_not}
use Rattle.heap.proofs.playing.without_words.Goals as goal

pub returns-then-all_there : goal.returns-then-all_there
returns-then-all_there c =
    let e = c.entry-numbers.ensures in
    roomless_there c.args.slots c.args.q.now _ (ap (all_there c.args.slots) (sym e.numbers) ∙ sym c.all_there.ensures ∙ c.if-all_there.true) (ap said e.empty)

pub returns-else-all_there : goal.returns-else-all_there
returns-else-all_there c =
    roomless_not c.args.slots c.args.q.now (ap (all_there c.args.slots) (sym c.entry-numbers.ensures.numbers) ∙ sym c.all_there.ensures ∙ c.if-all_there.false)
