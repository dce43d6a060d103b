-- The lines before this one were taken, and the input has the others left.
use Rattle.std.specs.Io.Iter.{lines_known_bytes}
use Rattle.driver.specs.Reading.{so_far}
use Rattle.driver.proofs.Taken.{LinesTaken}
use Rattle.driver.proofs.reading.Reading.take_input.Given as goal

abbrev pub invariant-loop-above : goal.invariant-loop-above
invariant-loop-above g l =
    LinesTaken (g.R.Read.remaining l.fn.input) (so_far l.initial.self) l.above-iterator.count (lines_known_bytes g.R.Read.remaining l.above-iterator.iter) (so_far l.self)
