-- The conditions under which a call that searches is refused, by number.
use Rattle.std.specs.Prelude.{◌≡◌, ℕ, ◌*◌, ◌<◌, ◌≤◌, true, false, ◌⊎◌, List, ◌∷◌, length}
use Rattle.boards.specs.Meaning.{Meaning, pad_at}
use Rattle.records.specs.declared.record.Record.{Record}
use Rattle.drawings.specs.Nets.{first_at, barred_at, wired, bars}
use Rattle.drawings.specs.Lawful.{Lawful}
use Rattle.drawings.specs.Conditions.{IsWrongDrawing, IsShortWork, IsShortReport, IsNotLawful, IsNoSuchCell, IsNotPad, IsWired, IsBarred, HasNoWay}

-- those that place and bar look at alike
abbrev pub SearchStopped : Meaning → List Record → List ℕ → List ℕ → ℕ → ℕ → Type 0
SearchStopped m d work report c n =
    ((n ≡ 1) × IsWrongDrawing m d) ⊎ (((n ≡ 2) × IsShortWork m work) ⊎ (((n ≡ 3) × IsShortReport m report) ⊎ (((n ≡ 4) × IsNotLawful m d)
    ⊎ ((n ≡ 5) × IsNoSuchCell m c))))

-- what holds if none of these does
pub record Searchable (m : Meaning) (d : List Record) (work report : List ℕ) (c : ℕ) : Type 0 where
  pub lawful : Lawful m d
  pub work_long : 4 * m.cells ≤ length work
  pub report_long : 2 * m.cells ≤ length report
  pub inside : c < m.cells

-- those that place looks at before it searches
abbrev pub PlaceStopped : Meaning → List Record → List ℕ → List ℕ → ℕ → ℕ → Type 0
PlaceStopped m d work report c n =
    ((n ≡ 1) × IsWrongDrawing m d) ⊎ (((n ≡ 2) × IsShortWork m work) ⊎ (((n ≡ 3) × IsShortReport m report) ⊎ (((n ≡ 4) × IsNotLawful m d)
    ⊎ (((n ≡ 5) × IsNoSuchCell m c) ⊎ (((n ≡ 6) × IsNotPad m c) ⊎ (((n ≡ 7) × IsWired d c) ⊎ ((n ≡ 9) × IsBarred d c)))))))

-- what holds if none of these does
pub record Placeable (m : Meaning) (d : List Record) (work report : List ℕ) (c : ℕ) : Type 0 where
  pub lawful : Lawful m d
  pub work_long : 4 * m.cells ≤ length work
  pub report_long : 2 * m.cells ≤ length report
  pub is_pad : pad_at m c ≡ true
  pub unwired : first_at d c ≡ false
  pub unbarred : barred_at d c ≡ false

-- and the last: the wired pads and this one cannot all be met
abbrev pub PlaceRefused : Meaning → List Record → List ℕ → List ℕ → ℕ → ℕ → Type 0
PlaceRefused m d work report c n = PlaceStopped m d work report c n ⊎ ((n ≡ 12) × HasNoWay m (bars d) (c ∷ wired d))

-- those that bar looks at before it searches
abbrev pub BarStopped : Meaning → List Record → List ℕ → List ℕ → ℕ → ℕ → Type 0
BarStopped m d work report c n =
    ((n ≡ 1) × IsWrongDrawing m d) ⊎ (((n ≡ 2) × IsShortWork m work) ⊎ (((n ≡ 3) × IsShortReport m report) ⊎ (((n ≡ 4) × IsNotLawful m d)
    ⊎ (((n ≡ 5) × IsNoSuchCell m c) ⊎ (((n ≡ 9) × IsBarred d c) ⊎ ((n ≡ 11) × IsWired d c))))))

pub record Barrable (m : Meaning) (d : List Record) (work report : List ℕ) (c : ℕ) : Type 0 where
  pub lawful : Lawful m d
  pub work_long : 4 * m.cells ≤ length work
  pub report_long : 2 * m.cells ≤ length report
  pub inside : c < m.cells
  pub unbarred : barred_at d c ≡ false
  pub unwired : first_at d c ≡ false

-- and the last: the wired pads cannot all be met with this cell barred
abbrev pub BarRefused : Meaning → List Record → List ℕ → List ℕ → ℕ → ℕ → Type 0
BarRefused m d work report c n = BarStopped m d work report c n ⊎ ((n ≡ 12) × HasNoWay m (c ∷ bars d) (wired d))
