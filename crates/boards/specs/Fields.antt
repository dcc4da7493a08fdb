-- Fields: two layers over a map, pads on the top, landings on the bottom.
use Rattle.std.specs.Prelude.{ℕ, Bool, ◌&&◌, List, [], ◌∷◌, Option, ◌==◌}
use Rattle.boards.specs.declared.map.Map.{Map}
use Rattle.boards.specs.declared.place.Place.{Place}
use Rattle.boards.specs.declared.place.Step.{Step}
use Rattle.boards.specs.declared.place.Step.TheVariants.{North, East, South, West, Down}
use Rattle.boards.specs.Meaning.{Meaning}
use Rattle.boards.specs.Grids.{grid_places}
use Rattle.boards.specs.MapMade.{over}
use Rattle.boards.specs.Maps.{landing_point, byte_at, map_board, one_cell, origin}

abbrev pub field_steps : List Step
field_steps = North ∷ East ∷ South ∷ West ∷ Down ∷ []

-- the landings lie on layer 2, at the landing points
abbrev pub field_landing : (C : ℕ) → List ℕ → Place → Bool
field_landing C bytes p = p.layer == 2 && landing_point (byte_at C bytes p)

-- the field of an accepted map
abbrev pub field : (R C : ℕ) → List ℕ → Meaning
field R C bytes = map_board 2 R C bytes field_steps (field_landing C bytes)

-- the same for the map that a field holds
abbrev pub field_meaning : Option Map → Meaning
field_meaning = over field one_cell

abbrev pub field_places : Option Map → List Place
field_places = over (λ R C bytes. grid_places 2 R C) (origin ∷ [])
