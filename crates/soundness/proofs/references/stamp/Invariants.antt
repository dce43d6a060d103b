-- What is left of the headers is as it was, and with the mark in them the row is the one with it in all.
use Rattle.std.proofs.Common.{◌≡◌, ℕ, ◌+◌, ◌-◌, ◌*◌, ◌≤◌, length, get_or}
use Rattle.layout.specs.Cells.{layout}
use Rattle.layout.proofs.Rests.{rest}
use Rattle.store.specs.Frame.{Frame}
use Rattle.soundness.specs.Stamps.{stamped}
use Rattle.soundness.proofs.references.stamp.Given as goal

abbrev pub invariant-loop-at : goal.invariant-loop-at
invariant-loop-at g l = record {
  frame : Frame g.W.Words l.initial.m l.m;
  end : l.objects.end ≡ l.free;
  len : length (g.W.Words.row l.m.words) ≡ length (g.W.Words.row l.initial.m.words);
  ahead : (k : ℕ) → l.objects.at.0 ≤ k → get_or (g.W.Words.row l.m.words) k 0 ≡ get_or (g.W.Words.row l.initial.m.words) k 0;
  after : stamped l.mark (rest (g.W.Words.row l.initial.m.words) l.objects.at.0 l.free) (g.W.Words.row l.m.words) ≡ stamped l.mark (layout l.initial.m.slots (g.W.Words.row l.initial.m.words)) (g.W.Words.row l.initial.m.words);
  few : g.W.Words.touched l.m.words + 2 * length (rest (g.W.Words.row l.initial.m.words) l.objects.at.0 l.free) ≡ g.W.Words.touched l.initial.m.words + 2 * length (layout l.initial.m.slots (g.W.Words.row l.initial.m.words));
}

abbrev pub decreases-loop-at : goal.decreases-loop-at
decreases-loop-at g l = l.free - l.objects.at.0
