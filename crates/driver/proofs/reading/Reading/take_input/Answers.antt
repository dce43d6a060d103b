-- One line more is taken, ends the reading, or is not there.
use Rattle.std.proofs.Common.{◌≡◌, ◌+◌, Ok, rules, ap, ◌∙◌}
use Rattle.std.proofs.lemmas.Result.{err_from_is_err_and, IfOk-from_err}
use Rattle.std.specs.Io.Iter.{lines_known_bytes}
use Rattle.driver.specs.Reading.{so_far, EndsBehind}
use Rattle.driver.proofs.Taken.{Next, none_taken, one_taken, input_ends, line_ends}
use Rattle.driver.proofs.reading.Reading.take_input.Goals as goal

pub loop-above-init : goal.loop-above-init
loop-above-init g c =
    let z = c.into_iter-above-iterator.ensures.into_iter_gives in
    let e = c.enumerate-above-items.ensures in
    let none : c.into_iter-above-iterator.result.count ≡ 0 = ap (λ v. v.count) z ∙ e.count in
    let same : lines_known_bytes g.R.Read.remaining c.into_iter-above-iterator.result.iter ≡ g.R.Read.remaining c.args.input =
    ap (λ v. lines_known_bytes g.R.Read.remaining v.iter) z ∙ ap (λ v. lines_known_bytes g.R.Read.remaining v) e.source ∙ c.lines.ensures in
    rw (none, same) (none_taken (g.R.Read.remaining c.args.input) (so_far c.args.self.now))

pub returns-in_err-line : goal.returns-in_err-line
returns-in_err-line g c =
    let e : EndsBehind c.loop-above.above-iterator.count c.from_residual.result = search rules in
    input_ends _ _ _ _ _ _ c.loop-above.invariant e (IfOk-from_err _ _ c.from_residual.ensures.0)

pub returns-in_err-take_line : goal.returns-in_err-take_line
returns-in_err-take_line g c =
    let p = err_from_is_err_and c.from_residual-in_err-take_line.result c.from_residual-in_err-take_line.ensures.1 in
    let known : Next (lines_known_bytes g.R.Read.remaining c.loop-above.above-iterator.iter) c.as_str.result.now (lines_known_bytes g.R.Read.remaining c.next.new.self.iter) = search rules in
    rw (p.1, p.2) (line_ends _ _ _ _ _ _ _ _ c.as_str.result.now c.in_err-take_line.field-0.0 c.loop-above.invariant (ap (λ n. n + 1) c.in-Some.ensures.steps.1) known c.in_err-take_line.ensures)

pub loop-above-preserved : goal.loop-above-preserved
loop-above-preserved g c =
    let known : Next (lines_known_bytes g.R.Read.remaining c.loop-above.above-iterator.iter) c.as_str.result.now (lines_known_bytes g.R.Read.remaining c.next.new.self.iter) = search rules in
    one_taken _ _ _ _ _ _ _ _ c.as_str.result.now c.loop-above.invariant c.in-Some.ensures.steps.2 known c.in_ok-take_line.ensures

pub returns : goal.returns
returns g c =
    input_ends _ _ _ _ _ (Ok tt) c.loop-above.invariant tt c.in-None.ensures.steps.0.1
