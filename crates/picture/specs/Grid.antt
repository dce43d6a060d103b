-- Where the words of a heap stand in its picture, and which way arrows go.
use Rattle.std.specs.Prelude.{ℕ, ◌+◌, ◌-◌, ◌*◌, ◌/◌, ◌%◌, nat_lt, if◌then◌else◌}
use Rattle.words.specs.declared.names.Addr.{Addr}
use Rattle.picture.specs.declared.grid.TheConstants.{COLUMNS, WIDTH, HEIGHT, PITCH, LEFT, TOP, BEND}
use Rattle.picture.specs.declared.grid.Arrow.{Arrow}
use Rattle.picture.specs.declared.grid.Edge.{Edge}
use Rattle.picture.specs.declared.grid.Edge.TheVariants.{Upper, Lower}
use Rattle.picture.specs.declared.grid.Point.{Point}

abbrev pub point : ℕ → ℕ → Point
point x y = record { x = x; y = y }

-- sixteen words a line; the first line is that of address 64
abbrev pub line_of : Addr → ℕ
line_of at = at.0 / COLUMNS - 64 / COLUMNS

abbrev pub corner_of : Addr → Point
corner_of at = point (LEFT + WIDTH * (at.0 % COLUMNS)) (TOP + PITCH * line_of at)

-- all lines that so many words begin, below the title
abbrev pub height_of : ℕ → ℕ
height_of words = TOP + PITCH * ((words + (COLUMNS - 1)) / COLUMNS)

-- the middle of an edge of a word's box, and a point a bend away from it
abbrev pub middle_of : Edge → Addr → Point
middle_of Upper at = point ((corner_of at).x + WIDTH / 2) (corner_of at).y
middle_of Lower at = point ((corner_of at).x + WIDTH / 2) ((corner_of at).y + HEIGHT)

abbrev pub away_of : Edge → Addr → Point
away_of Upper at = point (middle_of Upper at).x ((middle_of Upper at).y - BEND)
away_of Lower at = point (middle_of Lower at).x ((middle_of Lower at).y + BEND)

abbrev pub curve : Edge → Addr → Edge → Addr → Arrow
curve leaves from comes to =
    record {
      from = middle_of leaves from;
      leaving = away_of leaves from;
      coming = away_of comes to;
      to = middle_of comes to;
    }

-- down, up, or over the boxes of a line
abbrev pub arrow_of : Addr → Addr → Arrow
arrow_of from to =
    if nat_lt (line_of from) (line_of to) then curve Lower from Upper to
    else (if nat_lt (line_of to) (line_of from) then curve Upper from Lower to
    else curve Upper from Upper to)
