-- What comes of a map that is handed in, and the board made from it.
use Rattle.std.specs.Prelude.{◌≡◌, ℕ, Bool, List, [], ◌∷◌, Some, None, vec_items, Option, ⊤}
use Rattle.boards.specs.declared.map.Map.{Map}
use Rattle.boards.specs.declared.maps.MapKind.{MapKind}
use Rattle.boards.specs.declared.place.Place.{Place}
use Rattle.boards.specs.declared.place.Step.{Step}
use Rattle.boards.specs.Meaning.{Meaning}
use Rattle.boards.specs.Places.{place_at}
use Rattle.boards.specs.Refusals.{NoneHolds}
use Rattle.boards.specs.Grids.{grid_places}
use Rattle.boards.specs.Maps.{MapFault, map_board, one_cell, origin}

-- the map is taken as it is if the map check accepts it, and not at all if it refuses it
abbrev pub Taken : MapKind → (R C : ℕ) → List ℕ → Option Map → Type 0
Taken kind R C bytes (Some m) = NoneHolds (MapFault kind R C bytes) × (m.rows ≡ R) × (m.columns ≡ C) × (vec_items m.bytes ≡ bytes)
Taken kind R C bytes None = (k : ℕ) × MapFault kind R C bytes k

-- what is told of the map that a board holds, or else of the one-cell board
abbrev pub over : {X : Type 0} → (told : (R C : ℕ) → List ℕ → X) → X → Option Map → X
over told one (Some m) = told m.rows m.columns (vec_items m.bytes)
over told one None = one

-- what a board of L layers that holds a map means, and where its cells lie
abbrev pub map_meaning : (L : ℕ) → List Step → (landing : (R C : ℕ) → List ℕ → Place → Bool) → Option Map → Meaning
map_meaning L steps landing = over (λ R C bytes. map_board L R C bytes steps (landing R C bytes)) one_cell

abbrev pub map_places : ℕ → Option Map → List Place
map_places L = over (λ R C bytes. grid_places L R C) (origin ∷ [])

-- on the map m that a board of L layers holds, the cell lies at the place p
abbrev pub Lies : (L : ℕ) → Option Map → ℕ → Map → Place → Type 0
Lies L held c m p = (held ≡ Some m) × (place_at (grid_places L m.rows m.columns) c ≡ Some p)

-- the board holds no map, or the number is no cell
abbrev pub LiesNowhere : (L : ℕ) → Option Map → ℕ → Type 0
LiesNowhere L (Some m) c = place_at (grid_places L m.rows m.columns) c ≡ None
LiesNowhere L None c = ⊤

-- a board made from a map means what the map tells, with its places; where the map check refuses the map, it is the one-cell board
pub record Made (kind : MapKind) (R C : ℕ) (bytes : List ℕ) (told : Meaning) (places : List Place) (m : Meaning) (ps : List Place) : Type 0 where
  pub accepted : NoneHolds (MapFault kind R C bytes) → (m ≡ told) × (ps ≡ places)
  pub refused : (k : ℕ) → MapFault kind R C bytes k → (m ≡ one_cell) × (ps ≡ origin ∷ [])
