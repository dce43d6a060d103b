-- The answers before this one are printed.
use Rattle.std.proofs.Common.{take}
use Rattle.std.specs.Io.KnownBytes.{Appends}
use Rattle.driver.proofs.Printed.{told_lines}
use Rattle.driver.proofs.printing.print.Given as goal

abbrev pub invariant-loop-told : goal.invariant-loop-told
invariant-loop-told g l = Appends (g.W.Write.contents l.initial.out) (g.W.Write.contents l.out) (told_lines (take l.told-index l.told))
