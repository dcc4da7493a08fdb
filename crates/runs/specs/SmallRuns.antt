-- Calls on small boards, worked out by hand: what the promises of the calls leave as the only outcome.
use Rattle.std.specs.Prelude.{◌≡◌, ℕ, ◌*◌, ◌≤◌, List, [], ◌∷◌, length, take, drop, replicate, Ok, Err, Result}
use Rattle.boards.specs.Meaning.{Meaning}
use Rattle.boards.specs.Fields.{field}
use Rattle.boards.specs.Escapes.{escape}
use Rattle.boards.specs.SmallBoards.{three_points}
use Rattle.linkages.specs.Lists.{Same}
use Rattle.records.specs.declared.record.Record.{Record}
use Rattle.records.specs.declared.record.Record.TheVariants.{Free}
use Rattle.records.specs.declared.refusal.Refusal.{Refusal}
use Rattle.records.specs.declared.refusal.Refusal.TheVariants.{NoWay}
use Rattle.drawings.specs.Nets.{wired, bars}
use Rattle.records.specs.Numbers.{number_of}
use Rattle.drawings.specs.Lawful.{Lawful}
use Rattle.runs.specs.declared.calls.Kind.{Kind}
use Rattle.runs.specs.declared.calls.Kind.TheVariants.{Place, Bar}
use Rattle.runs.specs.Steps.{Performs}

-- one row of three points: pads at columns 0 and 1, a landing at column 2; cells 0, 1, 2 on layer 1 and 3, 4, 5 below them
abbrev pub row_field : Meaning
row_field = field 1 3 three_points

-- one point with a pad
abbrev pub one_point : Meaning
one_point = escape 1 1 (1 ∷ [])

-- whatever a call of this kind does, with memory enough, Q holds of its report memory and its answer
abbrev pub Always : Meaning → Kind → ℕ → List Record → (List ℕ → Result ℕ Refusal → Type 0) → Type 0
Always m kind c d Q = (e : List Record) (work work' report report' : List ℕ) (r : Result ℕ Refusal) →
    4 * m.cells ≤ length work → 2 * m.cells ≤ length report → Performs m kind c d e work work' report report' r → Q report' r

abbrev pub Refuses : ℕ → List ℕ → Result ℕ Refusal → Type 0
Refuses n report' (Ok x) = ⊥
Refuses n report' (Err r) = number_of r ≡ n

-- refused for want of a way, with these pads and cells shown
pub record Shows (pads cells report' : List ℕ) (r : Result ℕ Refusal) : Type 0 where
  pub no_way : r ≡ Err (NoWay (length pads) (length cells))
  pub pads_shown : Same (take (length pads) report') pads
  pub cells_shown : Same (take (length cells) (drop (length pads) report')) cells

-- a lawful drawing of the row in which pad 0 is wired and nothing is barred
pub record ZeroWired (d : List Record) : Type 0 where
  pub lawful : Lawful row_field d
  pub one_pad : Same (wired d) (0 ∷ [])
  pub no_bar : Same (bars d) []

pub record SmallRuns : Type 0 where
  -- the row, just made
  pub place_0 : Always row_field Place 0 (replicate 6 Free) (λ _ r. r ≡ Ok 5)
  pub place_2 : Always row_field Place 2 (replicate 6 Free) (Refuses 6)
  pub place_6 : Always row_field Place 6 (replicate 6 Free) (Refuses 5)
  -- the row with pad 0 wired
  pub place_0_again : (d : List Record) → ZeroWired d → Always row_field Place 0 d (Refuses 7)
  pub bar_0 : (d : List Record) → ZeroWired d → Always row_field Bar 0 d (Refuses 11)
  pub place_1 : (d : List Record) → ZeroWired d → Always row_field Place 1 d (Shows (0 ∷ 1 ∷ []) (5 ∷ []))
  pub bar_4 : (d : List Record) → ZeroWired d → Always row_field Bar 4 d (Shows (0 ∷ []) [])
  -- the escape board of one point with a pad
  pub no_escape : Always one_point Place 0 (replicate 1 Free) (Shows (0 ∷ []) [])
