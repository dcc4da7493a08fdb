-- When a drawing is lawful for a board.
use Rattle.std.specs.Prelude.{◌≡◌, ℕ, true, false, List, length, Some, None, Option}
use Rattle.boards.specs.Meaning.{Meaning, outlets_of, pad_at, landing_at}
use Rattle.records.specs.declared.record.Record.{Record}
use Rattle.drawings.specs.Nets.{before_at, after_at, net_at, first_at, last_at}
use Rattle.linkages.specs.Lists.{Mem}

-- the rules that look at one cell and the cells that it names
pub record Local (m : Meaning) (d : List Record) (c : ℕ) : Type 0 where
  -- a net cell with none before it is a pad
  pub first_is_pad : first_at d c ≡ true → pad_at m c ≡ true
  -- a net cell has none after it exactly if it is a landing
  pub last_is_landing : last_at d c ≡ true → landing_at m c ≡ true
  pub landing_is_last : net_at d c ≡ true → landing_at m c ≡ true → last_at d c ≡ true
  -- the cell after c is an outlet of c and names c as the cell before it, and the other way round
  pub after_is_outlet : (t : ℕ) → after_at d c ≡ Some t → Mem t (outlets_of m c)
  pub after_names_back : (t : ℕ) → after_at d c ≡ Some t → before_at d t ≡ Some c
  pub before_names_on : (s : ℕ) → before_at d c ≡ Some s → after_at d s ≡ Some c

-- the cell is reached by following a net from its first cell
pub data Reached (d : List Record) : ℕ → Type 0 where
  first : {c : ℕ} → first_at d c ≡ true → Reached d c
  next : {s c : ℕ} → Reached d s → after_at d s ≡ Some c → Reached d c

pub record Lawful (m : Meaning) (d : List Record) : Type 0 where
  -- one record for each cell
  pub one_each : length d ≡ m.cells
  pub local : (c : ℕ) → Local m d c
  -- every net cell is reached by following a net from its first cell
  pub reached : (c : ℕ) → net_at d c ≡ true → Reached d c

-- what the rules ask of a net cell by the cell before it, and by the cell after it
abbrev pub Begins : Meaning → List Record → ℕ → Option ℕ → Type 0
Begins m d c None = pad_at m c ≡ true
Begins m d c (Some s) = after_at d s ≡ Some c

abbrev pub GoesOn : Meaning → List Record → ℕ → Option ℕ → Type 0
GoesOn m d c None = landing_at m c ≡ true
GoesOn m d c (Some t) = (landing_at m c ≡ false) × Mem t (outlets_of m c) × (before_at d t ≡ Some c)
