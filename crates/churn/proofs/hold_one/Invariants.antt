-- The places before this one are set.
use Rattle.std.proofs.Common.{◌≡◌, ◌++◌}
use Rattle.churn.specs.Held.{turns}
use Rattle.churn.proofs.hold_one.Given as goal

abbrev pub invariant-loop-i : goal.invariant-loop-i
invariant-loop-i l = l.calls.items ≡ l.initial.calls.items ++ turns l.i
