-- The conditions under which a call on a drawing is refused, one for each number, and those that each call looks at.
-- m is what the board means, d the drawing, c the cell that the call names.
use Rattle.std.specs.Prelude.{◌≡◌, ℕ, ◌*◌, ◌<◌, ◌≤◌, true, false, ◌⊎◌, List, length}
use Rattle.boards.specs.Meaning.{Meaning, pad_at}
use Rattle.linkages.specs.Paths.{CanBeMet}
use Rattle.records.specs.declared.record.Record.{Record}
use Rattle.drawings.specs.Nets.{first_at, barred_at}
use Rattle.drawings.specs.Lawful.{Lawful}

-- 1: the drawing memory is not exactly one record for each cell
abbrev pub IsWrongDrawing : Meaning → List Record → Type 0
IsWrongDrawing m d = length d ≡ m.cells → ⊥

-- 2, 3: work memory has fewer than four numbers for each cell, report memory fewer than two
abbrev pub IsShortWork : Meaning → List ℕ → Type 0
IsShortWork m work = length work < 4 * m.cells

abbrev pub IsShortReport : Meaning → List ℕ → Type 0
IsShortReport m report = length report < 2 * m.cells

-- 4: the drawing is not lawful
abbrev pub IsNotLawful : Meaning → List Record → Type 0
IsNotLawful m d = Lawful m d → ⊥

-- 5: the number is no cell
abbrev pub IsNoSuchCell : Meaning → ℕ → Type 0
IsNoSuchCell m c = m.cells ≤ c

-- 6: the cell is no pad
abbrev pub IsNotPad : Meaning → ℕ → Type 0
IsNotPad m c = pad_at m c ≡ false

-- 7 and 11: the cell is a wired pad, the first cell of a net; 8: it is not
abbrev pub IsWired : List Record → ℕ → Type 0
IsWired d c = first_at d c ≡ true

abbrev pub IsNotWired : List Record → ℕ → Type 0
IsNotWired d c = first_at d c ≡ false

-- 9: the cell is barred; 10: it is not
abbrev pub IsBarred : List Record → ℕ → Type 0
IsBarred d c = barred_at d c ≡ true

abbrev pub IsNotBarred : List Record → ℕ → Type 0
IsNotBarred d c = barred_at d c ≡ false

-- 12: the pads to be met have no disjoint unbarred paths to landings
abbrev pub HasNoWay : Meaning → List ℕ → List ℕ → Type 0
HasNoWay m bars pads = CanBeMet m bars pads → ⊥

-- the drawing is lawful, and the cell is a wired pad of it
pub record IsWiredPad (m : Meaning) (d : List Record) (c : ℕ) : Type 0 where
  pub lawful : Lawful m d
  pub inside : c < m.cells
  pub pad : pad_at m c ≡ true
  pub wired : IsWired d c

-- ---- the conditions that several calls look at together, by number: of a cell of a lawful drawing, and of a wired pad of one

abbrev pub CellRefused : Meaning → List Record → ℕ → ℕ → Type 0
CellRefused m d c n = ((n ≡ 4) × IsNotLawful m d) ⊎ ((n ≡ 5) × IsNoSuchCell m c)

abbrev pub PadRefused : Meaning → List Record → ℕ → ℕ → Type 0
PadRefused m d c n = ((n ≡ 4) × IsNotLawful m d) ⊎ (((n ≡ 5) × IsNoSuchCell m c) ⊎ (((n ≡ 6) × IsNotPad m c) ⊎ ((n ≡ 8) × IsNotWired d c)))

-- ---- the conditions of each call, by number

abbrev pub NewRefused : Meaning → List Record → ℕ → Type 0
NewRefused m d n = (n ≡ 1) × IsWrongDrawing m d

abbrev pub LiftRefused : Meaning → List Record → ℕ → ℕ → Type 0
LiftRefused m d c n =
    ((n ≡ 1) × IsWrongDrawing m d) ⊎ (((n ≡ 4) × IsNotLawful m d) ⊎ (((n ≡ 5) × IsNoSuchCell m c) ⊎ (((n ≡ 6) × IsNotPad m c) ⊎ ((n ≡ 8) × IsNotWired d c))))

abbrev pub ClearRefused : Meaning → List Record → ℕ → ℕ → Type 0
ClearRefused m d c n =
    ((n ≡ 1) × IsWrongDrawing m d) ⊎ (((n ≡ 4) × IsNotLawful m d) ⊎ (((n ≡ 5) × IsNoSuchCell m c) ⊎ ((n ≡ 10) × IsNotBarred d c)))

abbrev pub ShowRefused : Meaning → List Record → List ℕ → ℕ → ℕ → Type 0
ShowRefused m d report c n =
    ((n ≡ 1) × IsWrongDrawing m d) ⊎ (((n ≡ 3) × IsShortReport m report) ⊎ (((n ≡ 4) × IsNotLawful m d) ⊎ (((n ≡ 5) × IsNoSuchCell m c)
    ⊎ (((n ≡ 6) × IsNotPad m c) ⊎ ((n ≡ 8) × IsNotWired d c)))))
