-- Where the cells of a board lie: a list with the place of each cell, by number.
use Rattle.std.specs.Prelude.{◌≡◌, ℕ, ◌+◌, ◌≤◌, List, length, Some, None, Option, ◌≢◌, nat_lt, slice_index_or}
use Rattle.boards.specs.declared.place.Place.{Place}
use Rattle.boards.specs.declared.place.Step.{Step}
use Rattle.boards.specs.declared.place.Step.TheVariants.{North, East, South, West, Down, Up}
use Rattle.boards.specs.Meaning.{Meaning, when, outlet_at}

abbrev pub nowhere : Place
nowhere = record { layer = 0; row = 0; column = 0 }

-- the place of a cell; a number that is no cell has none
abbrev pub place_at : List Place → ℕ → Option Place
place_at ps c = when (nat_lt c (length ps)) (slice_index_or ps c nowhere)

-- the step leads from the place p to the place q
abbrev pub Leads : Step → Place → Place → Type 0
Leads North p q = (q.layer ≡ p.layer) × (q.row + 1 ≡ p.row) × (q.column ≡ p.column)
Leads East p q = (q.layer ≡ p.layer) × (q.row ≡ p.row) × (q.column ≡ p.column + 1)
Leads South p q = (q.layer ≡ p.layer) × (q.row ≡ p.row + 1) × (q.column ≡ p.column)
Leads West p q = (q.layer ≡ p.layer) × (q.row ≡ p.row) × (q.column + 1 ≡ p.column)
Leads Down p q = (q.layer ≡ p.layer + 1) × (q.row ≡ p.row) × (q.column ≡ p.column)
Leads Up p q = (q.layer + 1 ≡ p.layer) × (q.row ≡ p.row) × (q.column ≡ p.column)

-- layers 1 to 8, rows and columns 0 to 63
pub record InRange (p : Place) : Type 0 where
  pub first_layer : 1 ≤ p.layer
  pub last_layer : p.layer ≤ 8
  pub last_row : p.row ≤ 63
  pub last_column : p.column ≤ 63

-- what a placed board promises of its places
pub record Placed (m : Meaning) (ps : List Place) : Type 0 where
  pub every_cell : length ps ≡ m.cells
  pub in_range : (c : ℕ) (p : Place) → place_at ps c ≡ Some p → InRange p
  pub apart : (c d : ℕ) (p : Place) → place_at ps c ≡ Some p → place_at ps d ≡ Some p → c ≡ d
  pub one_step : (c j d : ℕ) (p q : Place) → outlet_at m c j ≡ Some d → place_at ps c ≡ Some p → place_at ps d ≡ Some q → (s : Step) × Leads s p q

-- the answer to which cell lies at the place p
abbrev pub Finds : List Place → Place → Option ℕ → Type 0
Finds ps p (Some c) = place_at ps c ≡ Some p
Finds ps p None = (c : ℕ) → place_at ps c ≢ Some p
