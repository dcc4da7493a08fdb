-- What a drawing says of its cells, and its nets as lists.
use Rattle.std.specs.Prelude.{◌≡◌, ℕ, zero, suc, Bool, true, not, ◌&&◌, List, [], ◌∷◌, map, length, Some, None, filter, Option, ◌==◌}
use Rattle.std.specs.List.{range_with_len}
use Rattle.boards.specs.Meaning.{Meaning, landing_at}
use Rattle.records.specs.declared.record.Record.{Record}
use Rattle.records.specs.Records.{before_of, after_of, is_net, is_barred, is_first, is_last, record_at}

-- the cells before and after a cell on its net
abbrev pub before_at : List Record → ℕ → Option ℕ
before_at d c = before_of (record_at d c)

abbrev pub after_at : List Record → ℕ → Option ℕ
after_at d c = after_of (record_at d c)

-- the cell is on a net, barred, the first cell of a net, its last cell
abbrev pub net_at : List Record → ℕ → Bool
net_at d c = is_net (record_at d c)

abbrev pub barred_at : List Record → ℕ → Bool
barred_at d c = is_barred (record_at d c)

abbrev pub first_at : List Record → ℕ → Bool
first_at d c = is_first (record_at d c)

abbrev pub last_at : List Record → ℕ → Bool
last_at d c = is_last (record_at d c)

-- the cells that pass a test, in rising number
abbrev pub cells_where : List Record → (ℕ → Bool) → List ℕ
cells_where d test = filter test (range_with_len 0 (length d))

-- the wired pads: the first cells of nets
abbrev pub wired : List Record → List ℕ
wired d = cells_where d (first_at d)

-- the bars
abbrev pub bars : List Record → List ℕ
bars d = cells_where d (barred_at d)

-- the used landings: the landings on nets
abbrev pub used : Meaning → List Record → List ℕ
used m d = cells_where d (λ c. net_at d c && landing_at m c)

-- the cells met by going on from one cell to the cell after it, at most k of them
abbrev pub onward : List Record → Option ℕ → ℕ → List ℕ
onward d None k = []
onward d (Some c) zero = []
onward d (Some c) (suc k) = c ∷ onward d (after_at d c) k

-- the net from its first cell on
abbrev pub net : List Record → ℕ → List ℕ
net d c = onward d (Some c) (length d)

-- the last cell of a list, or c if it has none
abbrev pub last_of : ℕ → List ℕ → ℕ
last_of c [] = c
last_of c (x ∷ xs) = last_of x xs

abbrev pub nets : List Record → List (List ℕ)
nets d = map (net d) (wired d)

-- xs are the cells from c on, each the one after the one before it, to the last cell of a net
pub data Runs (d : List Record) : ℕ → List ℕ → Type 0 where
  ends : {c : ℕ} → last_at d c ≡ true → Runs d c (c ∷ [])
  goes : {c t : ℕ} {xs : List ℕ} → after_at d c ≡ Some t → Runs d t xs → Runs d c (c ∷ xs)

-- a list without one number
abbrev pub without : ℕ → List ℕ → List ℕ
without c xs = filter (λ x. not (x == c)) xs
