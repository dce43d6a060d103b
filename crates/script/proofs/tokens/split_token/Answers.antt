-- The line is cut before and after its first token.
use Rattle.std.proofs.Common.{false, IsUtf8, sym, ap, ◌∙◌, subst, arith}
use Rattle.std.proofs.lemmas.Bool.{eqb-true, eqb-false}
use Rattle.script.specs.Tokens.{run}
use Rattle.script.proofs.Runs.{after_blanks, after_token, cut_some, cut_none}
use Rattle.script.proofs.tokens.split_token.Goals as goal

pub split_at-requires : goal.split_at-requires
split_at-requires c = after_blanks c.args.line.now c.run_len.result (cc) (subst IsUtf8 c.as_bytes.ensures.value c.as_bytes.ensures.utf8)

pub split_at-requires-2 : goal.split_at-requires-2
split_at-requires-2 c = after_token c.split_at.result.1.now c.run_len-2.result (cc)

pub returns-then-is_empty : goal.returns-then-is_empty
returns-then-is_empty c =
    cut_none c.args.line.now c.split_at.result.1.now (cc)
    (omega (arith, c.split_at-2.ensures.front_len, ap (run false) c.as_bytes-2.ensures.value, eqb-true _ _ (sym c.is_empty.ensures ∙ c.if-is_empty.true)))

pub returns : goal.returns
returns c =
    cut_some c.args.line.now c.split_at.result.1.now c.split_at-2.result.0.now c.split_at-2.result.1.now (cc) (cc) (cc)
    (omega (arith, eqb-false _ _ (sym c.is_empty.ensures ∙ c.if-is_empty.false)))
