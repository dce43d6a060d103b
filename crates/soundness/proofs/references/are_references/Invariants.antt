-- The words from here on are references exactly if all are.
use Rattle.std.proofs.Common.{◌≡◌, ◌+◌, ◌-◌, ◌*◌}
use Rattle.layout.specs.Cells.{seg}
use Rattle.layout.specs.Sound.{all_of}
use Rattle.store.specs.Frame.{TouchesAtMost}
use Rattle.store.specs.Accesses.{Looks}
use Rattle.soundness.specs.Stamps.{answers}
use Rattle.soundness.proofs.references.are_references.Given as goal

abbrev pub invariant-loop-i : goal.invariant-loop-i
invariant-loop-i g l = record {
  looks : Looks g.W.Words l.initial.m l.m;
  few : TouchesAtMost (2 * l.i) g.W.Words l.initial.m l.m;
  references : all_of (answers l.free (g.W.Words.row l.initial.m.words) l.mark) (seg (g.W.Words.row l.initial.m.words) (l.from + l.i) (l.count - l.i))
      ≡ all_of (answers l.free (g.W.Words.row l.initial.m.words) l.mark) (seg (g.W.Words.row l.initial.m.words) l.from l.count);
}
