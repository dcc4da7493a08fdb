-- Small boards worked out by hand, as facts about the definitions.
use Rattle.std.specs.Prelude.{◌≡◌, ℕ, true, false, List, [], ◌∷◌}
use Rattle.boards.specs.Fields.{field}
use Rattle.boards.specs.Escapes.{escape}
use Rattle.boards.specs.Maps.{SidesAllowed}

-- one row of three points: pads at columns 0 and 1, a landing at column 2. Cells 0, 1, 2 lie on layer 1, and 3, 4, 5 below them
abbrev pub three_points : List ℕ
three_points = 1 ∷ 1 ∷ 2 ∷ []

pub record SmallBoards : Type 0 where
  -- pad 0 goes down, for east is pad 1; pad 1 goes east and down; nothing leads back into a pad; layer 2 is open both ways
  pub three_outlets : (field 1 3 three_points).outlets ≡ (3 ∷ []) ∷ (2 ∷ 4 ∷ []) ∷ (5 ∷ []) ∷ (4 ∷ []) ∷ (5 ∷ 3 ∷ []) ∷ (4 ∷ []) ∷ []
  pub three_pads : (field 1 3 three_points).pads ≡ true ∷ true ∷ false ∷ false ∷ false ∷ false ∷ []
  pub three_landings : (field 1 3 three_points).landings ≡ false ∷ false ∷ false ∷ false ∷ false ∷ true ∷ []
  -- the escape board of one point with a pad has no landing
  pub one_pad : escape 1 1 (1 ∷ []) ≡ record { cells = 1; outlets = [] ∷ []; pads = true ∷ []; landings = false ∷ [] }
  pub largest : SidesAllowed 64 32
  pub too_large : SidesAllowed 64 33 → ⊥
  pub no_rows : SidesAllowed 0 5 → ⊥
