-- The parse of digits, within the limit.
use Rattle.std.proofs.Common.{sym, ap, ◌∙◌, arith, rules}
use Rattle.std.specs.Str.{all_ascii_digits}
use Rattle.script.proofs.Values.{parsed}
use Rattle.script.proofs.numbers.number.Goals as goal

pub returns-clause-value : goal.returns-clause-value
returns-clause-value c =
    let t = c.args.token.now in
    let d = ap all_ascii_digits (sym c.as_bytes.ensures.value) ∙ sym c.all_digits.ensures ∙ c.if-not-all_digits.false in
    rw c.ok_or.ensures.value
    (parsed c.args.most c.args.over t c.parse.result c.filter.result _ c.parse.ensures.value.0 d c.requires (omega arith) (rw c.ok.ensures.value at c.filter.ensures) (λ n b q. search rules))
