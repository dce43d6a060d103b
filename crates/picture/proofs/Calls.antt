-- Calls that are played one after the other, and a sweep behind them.
use Rattle.std.proofs.Common.{◌≡◌, ℕ, ◌+◌, ◌≤◌, Bool, true, false, List, length, refl, ap, ◌∙◌, subst}
use Rattle.mutator.specs.declared.Ask.{Ask}
use Rattle.world.specs.World.{World, blank}
use Rattle.world.specs.Alike.{Alike}
use Rattle.world.specs.Room.{room}
use Rattle.world.proofs.Equivalence.{alike_self, alike_through}
use Rattle.world.proofs.Weighs.{weighs}
use Rattle.collector.specs.Collected.{Collected}
use Rattle.layout.specs.Cells.{base, world_of}
use Rattle.layout.specs.Sound.{sound}
use Rattle.layout.proofs.Worlds.{valid_of}
use Rattle.heap.specs.declared.playing.Turn.{Turn}
use Rattle.heap.specs.Playing.{world_after, Played}
use Rattle.picture.specs.declared.spot.Spot.{Spot}
use Rattle.picture.specs.Spots.{spots}
use Rattle.picture.specs.Played.{Sweeps, Shows}

-- with a collection or without
pub sweeps_none : (slots : ℕ) (row : List ℕ) → sound slots row ≡ true → Sweeps false slots row row
sweeps_none slots row s = record { stays = s; long = refl; alike = alike_self (world_of slots row) (valid_of slots row); swept = λ e. cc }

pub sweeps_all : (slots : ℕ) (row row' : List ℕ) → Collected slots row row' → Sweeps true slots row row'
sweeps_all slots row row' c = record { stays = c.stays; long = c.long; alike = c.alike; swept = λ e. c.free ∙ ap (λ (n : ℕ). base slots + n) (weighs (world_of slots row) (world_of slots row') c.alike) }

-- calls and a sweep, from the empty heap
pub shows : {X : Type 0} (g : Turn → X → Type 0) (k n slots : ℕ) (qs : List Ask) (wanted : Bool) (row row1 row2 : List ℕ) (o o' : List X) (shown : List Spot) → base slots ≤ n → length row ≡ n → world_of slots row ≡ blank slots
    → Played g k true qs slots row row1 o o' → Sweeps wanted slots row1 row2 → shown ≡ spots slots row2 → Shows n slots qs wanted shown
shows g k n slots qs wanted row row1 row2 o o' shown f l b p s e =
    let here = subst (λ (w : World). Alike (world_after (room n slots) w qs) (world_of slots row1)) b (subst (λ (j : ℕ). Alike (world_after (room j slots) (world_of slots row) qs) (world_of slots row1)) l p.alike) in
    record {
      row = row2;
      long = s.long ∙ p.long ∙ l;
      fits = f;
      ok = s.stays;
      alike = alike_through _ _ _ here s.alike;
      swept = s.swept;
      shown_is = e;
    }
