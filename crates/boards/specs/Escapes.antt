-- Escape boards: one layer over a map, with the landings on the rim.
use Rattle.std.specs.Prelude.{ℕ, ◌+◌, Bool, not, ◌&&◌, ◌||◌, List, [], ◌∷◌, Option, ◌==◌}
use Rattle.boards.specs.declared.map.Map.{Map}
use Rattle.boards.specs.declared.place.Place.{Place}
use Rattle.boards.specs.declared.place.Step.{Step}
use Rattle.boards.specs.declared.place.Step.TheVariants.{North, East, South, West}
use Rattle.boards.specs.Meaning.{Meaning}
use Rattle.boards.specs.Grids.{grid_places}
use Rattle.boards.specs.MapMade.{over}
use Rattle.boards.specs.Maps.{pad_place, map_board, one_cell, origin}

abbrev pub escape_steps : List Step
escape_steps = North ∷ East ∷ South ∷ West ∷ []

-- the first or last row or column
abbrev pub on_rim : (R C : ℕ) → Place → Bool
on_rim R C p = p.row == 0 || p.row + 1 == R || p.column == 0 || p.column + 1 == C

-- the landings are the points of the rim that hold no pad
abbrev pub escape_landing : (R C : ℕ) → List ℕ → Place → Bool
escape_landing R C bytes p = on_rim R C p && not (pad_place C bytes p)

-- the escape board of an accepted map
abbrev pub escape : (R C : ℕ) → List ℕ → Meaning
escape R C bytes = map_board 1 R C bytes escape_steps (escape_landing R C bytes)

-- the same for the map that an escape board holds
abbrev pub escape_meaning : Option Map → Meaning
escape_meaning = over escape one_cell

abbrev pub escape_places : Option Map → List Place
escape_places = over (λ R C bytes. grid_places 1 R C) (origin ∷ [])
