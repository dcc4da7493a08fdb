-- Marks on cells, and a drawing without the net cells that have none.
use Rattle.std.specs.Prelude.{◌≡◌, ℕ, Bool, not, ◌&&◌, List, [], ◌∷◌, ◌==◌, slice_index, slice_set}
use Rattle.boards.specs.Meaning.{Meaning}
use Rattle.records.specs.declared.record.Record.{Record}
use Rattle.drawings.specs.Nets.{net_at, wired, bars, used, cells_where}
use Rattle.drawings.specs.Lawful.{Lawful, Reached}

-- the marks with one at each cell of a list
abbrev pub marked : List ℕ → List ℕ → List ℕ
marked [] marks = marks
marked (c ∷ cs) marks = marked cs (slice_set marks c 1)

-- the cells that are reached by following a net from its first cell have a mark, and no others
pub record MarksReached (d : List Record) (marks : List ℕ) : Type 0 where
  pub whole : (c : ℕ) → Reached d c → slice_index marks c ≡ 1
  pub sound : (c : ℕ) → slice_index marks c ≡ 1 → Reached d c

-- the net cells without a mark
abbrev pub is_stray : List Record → List ℕ → ℕ → Bool
is_stray d marks c = net_at d c && not (slice_index marks c == 1)

abbrev pub strays : List Record → List ℕ → List ℕ
strays d marks = cells_where d (is_stray d marks)

-- e is lawful, with the first cells, the bars and the used landings of d
pub record Swept (m : Meaning) (d e : List Record) : Type 0 where
  pub lawful : Lawful m e
  pub same_wired : wired e ≡ wired d
  pub same_bars : bars e ≡ bars d
  pub same_used : used m e ≡ used m d
