-- The objects from here on have well-formed headers and end where the free words begin exactly if all do.
use Rattle.std.proofs.Common.{◌≡◌, ◌+◌, ◌-◌, ◌≤◌, ◌&&◌, length}
use Rattle.layout.specs.Map.{base}
use Rattle.layout.specs.Cells.{layout}
use Rattle.layout.specs.Sound.{all_of, ends}
use Rattle.layout.proofs.Rests.{rest}
use Rattle.store.specs.Accesses.{Looks}
use Rattle.soundness.specs.Stamps.{header_ok}
use Rattle.soundness.proofs.tiles.Given as goal

abbrev pub invariant-loop-header : goal.invariant-loop-header
invariant-loop-header g l = record {
  looks : Looks g.W.Words l.initial.m l.m;
  end : l.objects.end ≡ l.free;
  few : g.W.Words.touched l.m.words + length (rest (g.W.Words.row l.initial.m.words) l.objects.at.0 l.free) ≤ g.W.Words.touched l.initial.m.words + length (layout l.initial.m.slots (g.W.Words.row l.initial.m.words));
  tiling : (all_of (header_ok (g.W.Words.row l.initial.m.words)) (rest (g.W.Words.row l.initial.m.words) l.objects.at.0 l.free) && ends (rest (g.W.Words.row l.initial.m.words) l.objects.at.0 l.free) l.objects.at.0 l.free)
      ≡ (all_of (header_ok (g.W.Words.row l.initial.m.words)) (layout l.initial.m.slots (g.W.Words.row l.initial.m.words)) && ends (layout l.initial.m.slots (g.W.Words.row l.initial.m.words)) (base l.initial.m.slots) l.free);
}

abbrev pub decreases-loop-header : goal.decreases-loop-header
decreases-loop-header g l = l.free - l.objects.at.0
