use Rattle.std.proofs.Common.{◌≡◌, Some, rules}
use Rattle.boards.specs.Grids.{cell_of}
use Rattle.boards.proofs.Held.{by_cases, finds_none, finds_some}
use Rattle.boards.proofs.map_board.AnyPlacedBoard.cell_at.Goals as goal

pub returns-in-Some : goal.returns-in-Some
returns-in-Some g c =
    let L = g.M.Grid.LAYERS in
    let m = c.in-Some.map.now in
    let held = g.M.MapBoard.held c.args.self.now in
    let p = c.args.place in
    by_cases c.at.result c.at.ensures c.map-in-Some.ensures.cases
    (λ n e. rw e (finds_none L held m c.in-Some.ensures p n))
    (λ s t e.
    let is : c.map-in-Some.result ≡ Some (cell_of m.rows m.columns p) = search rules in
    rw is (finds_some L held m c.in-Some.ensures p (rw (t.0, t.1) at s.on_grid)))
