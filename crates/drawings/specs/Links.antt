-- The nets of a drawing as lists of cells: disjoint unbarred paths from the wired pads to landings.
use Rattle.std.specs.Prelude.{◌≡◌, ℕ, true, List, Some}
use Rattle.boards.specs.Meaning.{Meaning}
use Rattle.linkages.specs.Lists.{Mem, Distinct, Next}
use Rattle.linkages.specs.Paths.{Linkage}
use Rattle.linkages.specs.Nets.{pads_of, Wiring}
use Rattle.records.specs.declared.record.Record.{Record}
use Rattle.drawings.specs.Nets.{after_at, net_at, wired, bars, nets}

pub record Linked (m : Meaning) (d : List Record) : Type 0 where
  -- disjoint unbarred paths to landings, only the last cell of each a landing
  pub wiring : Wiring m (bars d) (nets d)
  -- from the wired pads
  pub pads : pads_of (nets d) ≡ wired d
  pub pads_differ : Distinct (wired d)
  -- so the wired pads can be met under the bars
  pub linkage : Linkage m (bars d) (wired d)
  -- the net cells are the cells of these lists
  pub on_a_net : (c : ℕ) → net_at d c ≡ true → (xs : List ℕ) × Mem xs (nets d) × Mem c xs
  pub net_cells : (c : ℕ) (xs : List ℕ) → Mem xs (nets d) → Mem c xs → net_at d c ≡ true
  -- and the cell after a cell is the next one
  pub next_is_after : (u t : ℕ) (xs : List ℕ) → Mem xs (nets d) → Next u t xs → after_at d u ≡ Some t
  pub after_is_next : (u t : ℕ) → after_at d u ≡ Some t → (xs : List ℕ) × Mem xs (nets d) × Next u t xs
