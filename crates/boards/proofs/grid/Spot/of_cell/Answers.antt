use Rattle.std.proofs.Common.{refl, rules}
use Rattle.boards.specs.GridsLemmas.{grid_place_in, grid_place_out}
use Rattle.boards.proofs.grid.Spot.of_cell.Goals as goal

pub returns-then-cell-cells : goal.returns-then-cell-cells
returns-then-cell-cells g c = search (rules, grid_place_out)

pub returns : goal.returns
returns g c = (refl, search (rules, grid_place_in))
