-- Grids of points: rows and columns count from 0, layers from 1 at the top.
-- Cells are numbered row after row, and layer after layer: with R rows and C columns, the cell at layer l, row r and column c
-- is (l - 1) * R * C + r * C + c.
use Rattle.std.specs.Prelude.{ℕ, ◌+◌, ◌-◌, ◌*◌, ◌/◌, ◌%◌, ◌<◌, ◌≤◌, List, map, length, Option, nat_lt}
use Rattle.std.specs.List.{range_with_len}
use Rattle.boards.specs.declared.place.Place.{Place}
use Rattle.boards.specs.declared.place.Step.{Step}
use Rattle.boards.specs.declared.place.Step.TheVariants.{North, East, South, West, Down, Up}
use Rattle.boards.specs.Meaning.{when}

abbrev pub cell_of : (R C : ℕ) → Place → ℕ
cell_of R C p = (p.layer - 1) * (R * C) + (p.row * C + p.column)

abbrev pub place_of : (R C : ℕ) → ℕ → Place
place_of R C c = record { layer = c / (R * C) + 1; row = c % (R * C) / C; column = c % (R * C) % C }

-- the places of the cells of L layers, by number
abbrev pub grid_places : (L R C : ℕ) → List Place
grid_places L R C = map (place_of R C) (range_with_len 0 (L * (R * C)))

-- the place lies on one of L layers of R rows and C columns
pub record OnGrid (L R C : ℕ) (p : Place) : Type 0 where
  pub layer_from : 1 ≤ p.layer
  pub layer_to : p.layer ≤ L
  pub row_to : p.row < R
  pub column_to : p.column < C

-- the place one step from p, where the grid has one there
abbrev pub beside : (L R C : ℕ) → Place → Step → Option Place
beside L R C p North = when (nat_lt 0 p.row) (record { layer = p.layer; row = p.row - 1; column = p.column })
beside L R C p East = when (nat_lt (p.column + 1) C) (record { layer = p.layer; row = p.row; column = p.column + 1 })
beside L R C p South = when (nat_lt (p.row + 1) R) (record { layer = p.layer; row = p.row + 1; column = p.column })
beside L R C p West = when (nat_lt 0 p.column) (record { layer = p.layer; row = p.row; column = p.column - 1 })
beside L R C p Down = when (nat_lt p.layer L) (record { layer = p.layer + 1; row = p.row; column = p.column })
beside L R C p Up = when (nat_lt 1 p.layer) (record { layer = p.layer - 1; row = p.row; column = p.column })

-- one or two layers, and at most eight steps: few enough for any map
pub record Few (L : ℕ) (steps : List Step) : Type 0 where
  pub some_layer : 1 ≤ L
  pub few_layers : L ≤ 2
  pub few_steps : length steps ≤ 8
