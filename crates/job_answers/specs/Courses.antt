-- The course of a net: a letter for each step from a cell to the next.
use Rattle.std.specs.Prelude.{◌≡◌, ℕ, List, [], ◌∷◌, Some, None, Option}
use Rattle.boards.specs.declared.place.Place.{Place}
use Rattle.boards.specs.declared.place.Step.{Step}
use Rattle.boards.specs.declared.place.Step.TheVariants.{North, East, South, West, Down, Up}
use Rattle.boards.specs.Places.{place_at, Leads}

-- N, E, S, W, D and U
abbrev pub letter : Step → ℕ
letter North = 78
letter East = 69
letter South = 83
letter West = 87
letter Down = 68
letter Up = 85

-- ps has the places of the cells, and these are the letters of the steps along the cells
pub data Course (ps : List Place) : (cells letters : List ℕ) → Type 0 where
  ends : {c : ℕ} → Course ps (c ∷ []) []
  goes : {c d : ℕ} {p q : Place} {cells letters : List ℕ} (s : Step) → place_at ps c ≡ Some p → place_at ps d ≡ Some q → Leads s p q →
      Course ps (d ∷ cells) letters → Course ps (c ∷ d ∷ cells) (letter s ∷ letters)

-- which step leads from p to q
abbrev pub StepBetween : Place → Place → Option Step → Type 0
StepBetween p q (Some s) = Leads s p q
StepBetween p q None = (s : Step) → Leads s p q → ⊥

-- which step leads from the cell c to the cell d
abbrev pub CellStep : List Place → ℕ → ℕ → Option Step → Type 0
CellStep ps c d (Some s) = (p : Place) × (q : Place) × (place_at ps c ≡ Some p) × (place_at ps d ≡ Some q) × Leads s p q
CellStep ps c d None = (p q : Place) (s : Step) → place_at ps c ≡ Some p → place_at ps d ≡ Some q → Leads s p q → ⊥

-- the letters along the cells; none if there is no cell, or some cell does not lie one step from the one before it
abbrev pub Letters : List Place → List ℕ → Option (List ℕ) → Type 0
Letters ps cells (Some letters) = Course ps cells letters
Letters ps cells None = (letters : List ℕ) → Course ps cells letters → ⊥

-- the cells and their places leave no choice of letters
abbrev pub CoursesAgree : Type 0
CoursesAgree = (ps : List Place) (cells letters letters' : List ℕ) → Course ps cells letters → Course ps cells letters' → letters ≡ letters'
