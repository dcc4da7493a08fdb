-- The board that the first lines of a job describe.
use Rattle.std.specs.Prelude.{◌≡◌, ℕ, ◌+◌, ◌*◌, ◌<◌, ◌≤◌, Bool, false, cond, ◌||◌, List, [], ◌∷◌, ◌++◌, length, replicate, ◌==◌, slice_index, slice_set}
use Rattle.std.specs.List.{AllByRecursion}
use Rattle.boards.specs.declared.maps.MapKind.{MapKind}
use Rattle.boards.specs.declared.maps.MapKind.TheVariants.{FieldMap, EscapeMap}
use Rattle.boards.specs.declared.place.Place.{Place}
use Rattle.boards.specs.Meaning.{Meaning}
use Rattle.boards.specs.Maps.{SidesAllowed, last_named, pad_point, landing_point}
use Rattle.boards.specs.Grids.{cell_of, grid_places}
use Rattle.boards.specs.Fields.{field}
use Rattle.boards.specs.Escapes.{escape}
use Rattle.boards.specs.KeepOuts.{keep_out}
use Rattle.job_lines.specs.Grammar.{Form}
use Rattle.job_lines.specs.Grammar as line

-- a pad, by its name and its point
pub record Named : Type 0 where
  pub name : List ℕ
  pub row : ℕ
  pub column : ℕ

-- what the lines so far say: the kind of board and its sides, the map, the pads in the order of their lines, and the cells kept out
pub record Plan : Type 0 where
  pub kind : MapKind
  pub rows : ℕ
  pub columns : ℕ
  pub map : List ℕ
  pub pads : List Named
  pub kept : List ℕ

-- after the first line there is a bare map
abbrev pub bare : MapKind → (R C : ℕ) → Plan
bare kind R C = record { kind = kind; rows = R; columns = C; map = replicate (R * C) 0; pads = []; kept = [] }

abbrev pub layers : MapKind → ℕ
layers FieldMap = 2
layers EscapeMap = 1

abbrev pub at_place : (l r c : ℕ) → Place
at_place l r c = record { layer = l; row = r; column = c }

-- the byte of a point that is a pad point as well, or a landing point as well; named twice is named once
abbrev pub also_pad : ℕ → ℕ
also_pad b = cond (pad_point b) b (b + 1)

abbrev pub also_landing : ℕ → ℕ
also_landing b = cond (landing_point b) b (b + 2)

-- the map with another byte for one of its points
abbrev pub changed : (ℕ → ℕ) → (C r c : ℕ) → List ℕ → List ℕ
changed f C r c bytes = slice_set bytes (r * C + c) (f (slice_index bytes (r * C + c)))

-- a pad line names a pad and makes its point a pad point, a land line makes its point a landing point, a keep line keeps out a cell
abbrev pub entered : Form → Plan → Plan
entered (line.field R C) p = p
entered (line.escape R C) p = p
entered (line.pad n r c) p = record {
  kind = p.kind;
  rows = p.rows;
  columns = p.columns;
  map = changed also_pad p.columns r c p.map;
  pads = p.pads ++ record { name = n; row = r; column = c } ∷ [];
  kept = p.kept;
}
entered (line.land r c) p = record {
  kind = p.kind;
  rows = p.rows;
  columns = p.columns;
  map = changed also_landing p.columns r c p.map;
  pads = p.pads;
  kept = p.kept;
}
entered (line.keep l r c) p = record {
  kind = p.kind;
  rows = p.rows;
  columns = p.columns;
  map = p.map;
  pads = p.pads;
  kept = p.kept ++ cell_of p.rows p.columns (at_place l r c) ∷ [];
}
entered (line.place n) p = p
entered (line.lift n) p = p
entered (line.bar l r c) p = p
entered (line.clear l r c) p = p
entered (line.show n) p = p

-- ---- the board

-- c stands in the list
abbrev pub among : List ℕ → ℕ → Bool
among [] c = false
among (x ∷ xs) c = c == x || among xs c

-- the field or the escape board of the map
abbrev pub base : MapKind → (R C : ℕ) → List ℕ → Meaning
base FieldMap R C bytes = field R C bytes
base EscapeMap R C bytes = escape R C bytes

-- with the keep-out over it
abbrev pub board_meaning : Plan → Meaning
board_meaning p = keep_out (among p.kept) (base p.kind p.rows p.columns p.map)

abbrev pub board_places : Plan → List Place
board_places p = grid_places (layers p.kind) p.rows p.columns

-- ---- what holds of a plan all along: the map check accepts its map, its pads lie on the board and are at most 128, and what is
-- kept out are cells
pub record Sound (p : Plan) : Type 0 where
  pub sides : SidesAllowed p.rows p.columns
  pub full : length p.map ≡ p.rows * p.columns
  pub bytes : (i : ℕ) → slice_index p.map i ≤ last_named p.kind
  pub few : length p.pads ≤ 128
  pub on_board : AllByRecursion (λ q. (q.row < p.rows) × (q.column < p.columns)) p.pads
  pub cells : AllByRecursion (λ c. c < layers p.kind * (p.rows * p.columns)) p.kept
