use Rattle.std.proofs.Common.{sym, ◌∙◌}
use Rattle.boards.proofs.Held.{outlet_there}
use Rattle.boards.proofs.map_board.AnyBoard.outlet.Goals as goal

pub returns : goal.returns
returns g c =
    let s = c.in_ok-spot.field-0 in
    c.outlet.ensures ∙ sym (outlet_there g.M.Grid.LAYERS g.M.Grid.steps g.M.MapBoard.landing c.args.cell (g.M.MapBoard.held c.args.self.now) s.map.now s.place c.in_ok-spot.ensures c.args.j)
