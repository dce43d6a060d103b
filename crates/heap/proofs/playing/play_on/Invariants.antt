-- The calls before this one are played.
use Rattle.std.proofs.Common.{◌≡◌, take, length}
use Rattle.heap.specs.Playing.{Played}
use Rattle.heap.proofs.playing.play_on.Given as goal

abbrev pub invariant-loop-i : goal.invariant-loop-i
invariant-loop-i g l =
    (l.m.slots ≡ l.initial.m.slots)
    × Played g.T.From.from_gives (length l.script) l.ready (take l.i l.script) l.initial.m.slots l.initial.m.words.words.now l.m.words.words.now l.initial.out l.out
