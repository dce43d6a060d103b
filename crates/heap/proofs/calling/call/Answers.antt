-- No call touches more words than a New that collects.
use Rattle.std.proofs.Common.{arith}
use Rattle.heap.proofs.Arms.{most_in_all}
use Rattle.heap.proofs.calling.call.Goals as goal

pub returns-clause-touches : goal.returns-clause-touches
returns-clause-touches g c = omega (arith, c.call_with.ensures.most, most_in_all c.args.q.now (g.W.Words.row c.args.m.now.words))
