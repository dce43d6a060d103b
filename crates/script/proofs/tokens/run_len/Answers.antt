-- The first byte that is not of the run ends it.
use Rattle.std.proofs.Common.{◌≡◌, true, false, sym, refl, ◌∙◌, rules, tests}
use Rattle.std.specs.Bool.{beq}
use Rattle.std.proofs.lemmas.Iterator.{YieldsList-from_slice, IsFirst-from_position, index_from_first}
use Rattle.script.specs.Tokens.{blank, run}
use Rattle.script.proofs.Runs.{ends, goes_on}
use Rattle.script.proofs.tokens.run_len.Goals as goal

pub returns : goal.returns
returns c =
    let b = c.args.blank in
    c.unwrap_or.ensures ∙ sym (index_from_first (run b) (λ x. beq (blank x) b ≡ false) (λ x. beq (blank x) b ≡ true) refl (ends b) (goes_on b) c.args.line.now c.position.result
    (IsFirst-from_position _ _ c.position.result (λ x. beq (blank x) b ≡ false) (λ x. beq (blank x) b ≡ true) c.position.ensures.ran (YieldsList-from_slice c.args.line.now cc) (λ x q k. search (rules, tests)) (λ x q k. search (rules, tests))))
