-- Small boards that meet everything that the theorems ask for, with the fences that come of it.
use Rattle.std.specs.Prelude.{ℕ, Bool, true, false, List, [], ◌∷◌, slice_index_or}
use Rattle.boards.specs.Meaning.{Meaning, Bounded}
use Rattle.linkages.specs.Lists.{Same, Disjoint}
use Rattle.linkages.specs.Paths.{Landing, Walk, Path, CanBeMet}
use Rattle.linkages.specs.Fences.{Fence}
use Rattle.linkages.specs.Nets.{Trapped, Shows}

-- the cells that a search entered, by a mark for each cell
abbrev pub marked : List Bool → ℕ → Bool
marked marks c = slice_index_or marks c false

-- ---- a field of one row: pads in columns 0 and 1, a landing in column 2

-- cells 0, 1, 2 lie on layer 1 and cells 3, 4, 5 below them; the pads are 0 and 1, the landing is 5, and nothing leads into a pad
abbrev pub row : Meaning
row = record {
  cells = 6;
  outlets = (3 ∷ []) ∷ (2 ∷ 4 ∷ []) ∷ (5 ∷ []) ∷ (4 ∷ []) ∷ (5 ∷ 3 ∷ []) ∷ (4 ∷ []) ∷ [];
  pads = true ∷ true ∷ false ∷ false ∷ false ∷ false ∷ [];
  landings = false ∷ false ∷ false ∷ false ∷ false ∷ true ∷ [];
}

-- the one net laid: from pad 1 along layer 1, and down to the landing
abbrev pub row_nets : List (List ℕ)
row_nets = (1 ∷ 2 ∷ 5 ∷ []) ∷ []

-- no bars: the search from pad 0 enters every cell, and both pads are behind cell 5
pub record RowExample : Type 0 where
  pub bounded : Bounded row
  pub walk : Walk row [] 5 1 (1 ∷ 4 ∷ 3 ∷ 4 ∷ 5 ∷ [])
  pub path : Path row [] 1 5 (1 ∷ 2 ∷ 5 ∷ [])
  pub lands : Landing row 5
  pub apart : Disjoint ((0 ∷ 3 ∷ []) ∷ (1 ∷ 2 ∷ []) ∷ [])
  pub trapped : Trapped row [] row_nets 0 (marked (true ∷ true ∷ true ∷ true ∷ true ∷ true ∷ []))
  pub shows : Shows row_nets 0 (marked (true ∷ true ∷ true ∷ true ∷ true ∷ true ∷ [])) (0 ∷ 1 ∷ []) (5 ∷ [])
  pub fence : Fence row [] (0 ∷ 1 ∷ []) (0 ∷ 1 ∷ []) (5 ∷ [])
  pub pad_0_can : CanBeMet row [] (0 ∷ [])
  pub pad_1_can : CanBeMet row [] (1 ∷ [])
  pub both_cannot : CanBeMet row [] (0 ∷ 1 ∷ []) → ⊥
  pub no_other : (A X : List ℕ) → Fence row [] (0 ∷ 1 ∷ []) A X → Same A (0 ∷ 1 ∷ []) × Same X (5 ∷ [])

-- cell 4 barred: the search enters cells 0 and 3 and comes to no net, so pad 0 is alone behind a fence of no cell
pub record BarredRowExample : Type 0 where
  pub trapped : Trapped row (4 ∷ []) row_nets 0 (marked (true ∷ false ∷ false ∷ true ∷ []))
  pub fence : Fence row (4 ∷ []) (0 ∷ 1 ∷ []) (0 ∷ []) []
  pub alone : Fence row (4 ∷ []) (0 ∷ []) (0 ∷ []) []

-- ---- one cell, a pad, and no landing

abbrev pub lone : Meaning
lone = record { cells = 1; outlets = [] ∷ []; pads = true ∷ []; landings = false ∷ [] }

pub record LoneExample : Type 0 where
  pub bounded : Bounded lone
  pub trapped : Trapped lone [] [] 0 (marked (true ∷ []))
  pub fence : Fence lone [] (0 ∷ []) (0 ∷ []) []

-- ---- a pad in the middle of another pad's net: 0 leads to 1 and 1 to the landing 2; both 0 and 1 are pads

abbrev pub line : Meaning
line = record {
  cells = 3;
  outlets = (1 ∷ []) ∷ (2 ∷ []) ∷ [] ∷ [];
  pads = true ∷ true ∷ false ∷ [];
  landings = false ∷ false ∷ true ∷ [];
}

-- pad 0 is wired through pad 1: the search from 1 goes back to 0 and no further; the nearest cell that blocks both is 1, not 2
pub record LineExample : Type 0 where
  pub bounded : Bounded line
  pub trapped : Trapped line [] ((0 ∷ 1 ∷ 2 ∷ []) ∷ []) 1 (marked (true ∷ true ∷ []))
  pub fence : Fence line [] (1 ∷ 0 ∷ []) (1 ∷ 0 ∷ []) (1 ∷ [])
