-- How what stands at a word looks in the picture.
use Rattle.std.specs.Prelude.{ℕ, ◌+◌, ◌-◌, ◌/◌, ◌^◌, min, List, ◌++◌, codes, decimal, nat_lt, if◌then◌else◌, Some, None, Option}
use Rattle.words.specs.declared.names.Addr.{Addr}
use Rattle.picture.specs.declared.grid.TheConstants.{WIDTH, HEIGHT}
use Rattle.picture.specs.declared.grid.Arrow.{Arrow}
use Rattle.picture.specs.declared.grid.Point.{Point}
use Rattle.picture.specs.declared.spot.Part.TheVariants.{Header, Second, Place, Word}
use Rattle.picture.specs.declared.spot.Spot.{Spot}
use Rattle.picture.specs.declared.spot.Spot.TheVariants.{Slot, Reached, Dead, Free}
use Rattle.picture.specs.declared.svg.Counts.{Counts}
use Rattle.picture.specs.declared.svg.TheConstants.{BASE}
use Rattle.picture.specs.Grid.{corner_of}

abbrev pub class_of : Spot → List ℕ
class_of (Slot target) = codes "slot"
class_of (Reached Header) = codes "reached header"
class_of (Reached Second) = codes "reached second"
class_of (Reached (Place target)) = codes "reached place"
class_of (Reached (Word word)) = codes "reached word"
class_of (Dead Header) = codes "dead header"
class_of (Dead Second) = codes "dead second"
class_of (Dead (Place target)) = codes "dead place"
class_of (Dead (Word word)) = codes "dead word"
class_of Free = codes "free"

-- what it leads to
abbrev pub target_of : Spot → Option Addr
target_of (Slot target) = target
target_of (Reached (Place target)) = target
target_of (Dead (Place target)) = target
target_of (Reached Header) = None
target_of (Reached Second) = None
target_of (Reached (Word word)) = None
target_of (Dead Header) = None
target_of (Dead Second) = None
target_of (Dead (Word word)) = None
target_of Free = None

-- a slot's own number, or what a word holds
abbrev pub number_of : Spot → Addr → Option ℕ
number_of (Slot target) at = Some (at.0 - 64)
number_of (Reached (Word word)) at = Some word
number_of (Dead (Word word)) at = Some word
number_of (Reached Header) at = None
number_of (Reached Second) at = None
number_of (Reached (Place target)) at = None
number_of (Dead Header) at = None
number_of (Dead Second) at = None
number_of (Dead (Place target)) at = None
number_of Free at = None

-- a number of at most six digits, since a box has no room for more
abbrev pub short_text : ℕ → List ℕ
short_text n = if nat_lt n 1000000 then decimal n else codes "..."

-- a box, and the number in it
abbrev pub rect_text : List ℕ → Addr → List ℕ
rect_text class at =
    codes "<rect class='" ++ class ++ codes "' x='" ++ decimal (corner_of at).x
    ++ codes "' y='" ++ decimal (corner_of at).y ++ codes "'"
    ++ codes " width='" ++ decimal WIDTH ++ codes "' height='" ++ decimal HEIGHT ++ codes "'/>"

abbrev pub label_text : ℕ → Addr → List ℕ
label_text n at =
    codes "<text x='" ++ decimal ((corner_of at).x + WIDTH / 2)
    ++ codes "' y='" ++ decimal ((corner_of at).y + BASE) ++ codes "'>"
    ++ short_text n ++ codes "</text>"

-- an arrow as the data of a path
abbrev pub point_text : Point → List ℕ
point_text p = decimal p.x ++ codes " " ++ decimal p.y

abbrev pub curve_text : Arrow → List ℕ
curve_text a =
    codes "M" ++ point_text a.from ++ codes "C" ++ point_text a.leaving
    ++ codes " " ++ point_text a.coming ++ codes " " ++ point_text a.to

-- the counts of no word, and of one more
abbrev pub none : Counts
none = record { reached = 0; dead = 0; free = 0 }

abbrev pub next : ℕ → ℕ
next n = min (n + 1) (2 ^ 64 - 1)

abbrev pub and_one : Counts → Spot → Counts
and_one c (Reached Header) = record { reached = next c.reached; dead = c.dead; free = c.free }
and_one c (Dead Header) = record { reached = c.reached; dead = next c.dead; free = c.free }
and_one c Free = record { reached = c.reached; dead = c.dead; free = next c.free }
and_one c spot = c
