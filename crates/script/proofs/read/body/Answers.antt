-- The carriage return is the last byte, or there is none.
use Rattle.std.proofs.Common.{refl, arith}
use Rattle.std.proofs.lemmas.Str.Pattern.{strip_suffix_char}
use Rattle.script.proofs.Bodies.{body_stripped}
use Rattle.script.proofs.read.body.Goals as goal

pub returns : goal.returns
returns c =
    let line = c.args.line.now in
    let o = c.strip_suffix.result in
    rw c.unwrap_or.ensures (body_stripped line o c.args.line (strip_suffix_char 13 line o c.strip_suffix.ensures.cases (omega arith)) refl)
