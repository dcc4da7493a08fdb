-- Maps: R rows of C bytes, one for each point, and the boards that are read from them.
use Rattle.std.specs.Prelude.{◌≡◌, ℕ, ◌+◌, ◌*◌, ◌/◌, ◌%◌, ◌<◌, ◌≤◌, Bool, true, false, not, ◌&&◌, ◌||◌, ◌⊎◌, List, [], ◌∷◌, map, length, Some, None, Option, ◌==◌, ◌≢◌, slice_index}
use Rattle.boards.specs.declared.maps.MapKind.{MapKind}
use Rattle.boards.specs.declared.maps.MapKind.TheVariants.{FieldMap, EscapeMap}
use Rattle.boards.specs.declared.place.Place.{Place}
use Rattle.boards.specs.declared.place.Step.{Step}
use Rattle.boards.specs.declared.place.Step.TheVariants.{North, East, South, West, Down, Up}
use Rattle.boards.specs.Meaning.{Meaning, when, board_of}
use Rattle.boards.specs.Grids.{place_of, cell_of, beside}

-- 1 to 64 rows, 1 to 64 columns, and at most 2,048 points
abbrev pub SidesAllowed : (R C : ℕ) → Type 0
SidesAllowed R C = (1 ≤ R) × (R ≤ 64) × (1 ≤ C) × (C ≤ 64) × (R * C ≤ 2048)

-- the bytes of a field map are 0 plain, 1 pad point, 2 landing point, 3 both; those of an escape map are 0 and 1
abbrev pub last_named : MapKind → ℕ
last_named FieldMap = 3
last_named EscapeMap = 1

-- what is wrong with a map, by number
abbrev pub MapFault : MapKind → (R C : ℕ) → List ℕ → ℕ → Type 0
MapFault kind R C bytes n =
    ((n ≡ 13) × (SidesAllowed R C → ⊥))
    ⊎ (((n ≡ 14) × (length bytes ≢ R * C))
    ⊎ ((n ≡ 15) × ((i : ℕ) × (i < length bytes) × (last_named kind < slice_index bytes i))))

abbrev pub pad_point : ℕ → Bool
pad_point b = b % 2 == 1

abbrev pub landing_point : ℕ → Bool
landing_point b = b / 2 % 2 == 1

-- the byte of the point at a place
abbrev pub byte_at : (C : ℕ) → List ℕ → Place → ℕ
byte_at C bytes p = slice_index bytes (p.row * C + p.column)

-- pads stand on layer 1, at the pad points
abbrev pub pad_place : (C : ℕ) → List ℕ → Place → Bool
pad_place C bytes p = p.layer == 1 && pad_point (byte_at C bytes p)

-- a wire changes layer only at a pad point or a landing point
abbrev pub passes : Step → ℕ → Bool
passes North b = true
passes East b = true
passes South b = true
passes West b = true
passes Down b = pad_point b || landing_point b
passes Up b = pad_point b || landing_point b

-- the cell that a step leads to: the one beside, where there is one, the step passes, and no pad stands there
abbrev pub way_to : (R C : ℕ) → List ℕ → Place → Step → Option Place → Option ℕ
way_to R C bytes p s None = None
way_to R C bytes p s (Some q) = when (passes s (byte_at C bytes p) && not (pad_place C bytes q)) (cell_of R C q)

abbrev pub way : (L R C : ℕ) → List ℕ → Place → Step → Option ℕ
way L R C bytes p s = way_to R C bytes p s (beside L R C p s)

-- the numbers that are there, in their order
abbrev pub somes : List (Option ℕ) → List ℕ
somes [] = []
somes (Some x ∷ xs) = x ∷ somes xs
somes (None ∷ xs) = somes xs

-- the board of L layers over a map: from each cell lead the ways of the steps given, in that order
abbrev pub map_board : (L R C : ℕ) → List ℕ → List Step → (Place → Bool) → Meaning
map_board L R C bytes steps landing =
    board_of (L * (R * C)) (λ c. somes (map (way L R C bytes (place_of R C c)) steps))
    (λ c. pad_place C bytes (place_of R C c)) (λ c. landing (place_of R C c))

-- what a map that is refused makes: one cell, with no outlet, neither pad nor landing, on layer 1 in row 0 and column 0
abbrev pub one_cell : Meaning
one_cell = board_of 1 (λ c. []) (λ c. false) (λ c. false)

abbrev pub origin : Place
origin = record { layer = 1; row = 0; column = 0 }
