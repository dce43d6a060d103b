-- The objects from here on have references in their places exactly if all have.
use Rattle.std.proofs.Common.{◌≡◌, ◌+◌, ◌-◌, ◌*◌, ◌≤◌, true, length}
use Rattle.layout.specs.Cells.{layout}
use Rattle.layout.specs.Sound.{all_of, ends}
use Rattle.layout.proofs.Rests.{rest}
use Rattle.store.specs.Accesses.{Looks}
use Rattle.soundness.specs.Stamps.{object_answers}
use Rattle.soundness.specs.Costs.{places_in}
use Rattle.soundness.proofs.references.are_objects.Given as goal

abbrev pub invariant-loop-at : goal.invariant-loop-at
invariant-loop-at g l = record {
  looks : Looks g.W.Words l.initial.m l.m;
  end : l.objects.end ≡ l.free;
  few : g.W.Words.touched l.m.words + (length (rest (g.W.Words.row l.initial.m.words) l.objects.at.0 l.free) + 2 * places_in (rest (g.W.Words.row l.initial.m.words) l.objects.at.0 l.free))
      ≤ g.W.Words.touched l.initial.m.words + (length (layout l.initial.m.slots (g.W.Words.row l.initial.m.words)) + 2 * places_in (layout l.initial.m.slots (g.W.Words.row l.initial.m.words)));
  tiled : ends (rest (g.W.Words.row l.initial.m.words) l.objects.at.0 l.free) l.objects.at.0 l.free ≡ true;
  objects : all_of (object_answers l.free (g.W.Words.row l.initial.m.words) l.mark) (rest (g.W.Words.row l.initial.m.words) l.objects.at.0 l.free)
      ≡ all_of (object_answers l.free (g.W.Words.row l.initial.m.words) l.mark) (layout l.initial.m.slots (g.W.Words.row l.initial.m.words));
}

abbrev pub decreases-loop-at : goal.decreases-loop-at
decreases-loop-at g l = l.free - l.objects.at.0
