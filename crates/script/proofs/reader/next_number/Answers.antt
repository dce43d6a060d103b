-- No token is empty.
use Rattle.script.specs.Tokens.{pieces, tokens}
use Rattle.script.proofs.Values.{first_filled}
use Rattle.script.proofs.reader.next_number.Goals as goal

pub number-requires : goal.number-requires
number-requires c = first_filled (pieces c.args.line.now) _ (tokens c.in_ok-token.rest.now) (rw c.in_ok-token.ensures.ok_part at c.split_token.ensures)
