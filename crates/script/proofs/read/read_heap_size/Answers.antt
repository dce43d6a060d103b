-- No token is empty.
use Rattle.script.specs.Tokens.{pieces, tokens}
use Rattle.script.specs.Reading.{body}
use Rattle.script.proofs.Values.{first_filled}
use Rattle.script.proofs.read.read_heap_size.Goals as goal

pub heap_size-requires : goal.heap_size-requires
heap_size-requires c = first_filled (pieces (body c.args.line.now)) _ (tokens c.in-Some.rest.now) c.in-Some.ensures
