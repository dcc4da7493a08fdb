-- What a board is: cells numbered from 0, an ordered list of outlets for each, and which cells are pads and landings.
-- It is one plain value, so two boards are alike exactly if their meanings are equal.
use Rattle.std.specs.Prelude.{◌≡◌, ℕ, ◌<◌, ◌≤◌, Bool, true, false, List, [], map, length, Some, None, Option, nat_lt, slice_index, slice_index_or}
use Rattle.std.specs.List.{range_with_len}

pub record Meaning : Type 0 where
  pub cells : ℕ
  pub outlets : List (List ℕ)
  pub pads : List Bool
  pub landings : List Bool

-- x, where the test holds
abbrev pub when : {X : Type 0} → Bool → X → Option X
when true x = Some x
when false x = None

-- what stands at place j of a list, counted from 0; none past the end
abbrev pub at : List ℕ → ℕ → Option ℕ
at xs j = when (nat_lt j (length xs)) (slice_index xs j)

-- the outlets of a cell; a number that is no cell has none
abbrev pub outlets_of : Meaning → ℕ → List ℕ
outlets_of m c = slice_index_or m.outlets c []

-- the answers to the questions about a cell; a number that is no cell has no outlet, and is neither pad nor landing
abbrev pub outlet_at : Meaning → ℕ → ℕ → Option ℕ
outlet_at m c j = at (outlets_of m c) j

abbrev pub pad_at : Meaning → ℕ → Bool
pad_at m c = slice_index_or m.pads c false

abbrev pub landing_at : Meaning → ℕ → Bool
landing_at m c = slice_index_or m.landings c false

-- 1 to 4,096 cells; for each one list of outlets, of at most 8, all of them cells, one pad mark and one landing mark
pub record Bounded (m : Meaning) : Type 0 where
  pub some_cell : 1 ≤ m.cells
  pub few_cells : m.cells ≤ 4096
  pub outlets_length : length m.outlets ≡ m.cells
  pub pads_length : length m.pads ≡ m.cells
  pub landings_length : length m.landings ≡ m.cells
  pub few_outlets : (c : ℕ) → length (outlets_of m c) ≤ 8
  pub inside : (c j : ℕ) → j < length (outlets_of m c) → slice_index (outlets_of m c) j < m.cells

-- the board of n cells, given by what each cell's outlets are, and whether it is a pad and a landing
abbrev pub board_of : ℕ → (ℕ → List ℕ) → (ℕ → Bool) → (ℕ → Bool) → Meaning
board_of n outlets pad landing = record {
  cells = n;
  outlets = map outlets (range_with_len 0 n);
  pads = map pad (range_with_len 0 n);
  landings = map landing (range_with_len 0 n);
}

-- no outlet leads into a pad
abbrev pub NoWayIn : Meaning → Type 0
NoWayIn m = (c j d : ℕ) → outlet_at m c j ≡ Some d → pad_at m d ≡ false
