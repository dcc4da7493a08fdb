use Rattle.std.proofs.Common.{sym, ◌∙◌, rules}
use Rattle.boards.proofs.Held.{by_cases, no_landing, landing_there}
use Rattle.boards.proofs.map_board.AnyBoard.is_landing.Goals as goal

pub returns : goal.returns
returns g c =
    let L = g.M.Grid.LAYERS in
    let steps = g.M.Grid.steps in
    let landing = g.M.MapBoard.landing in
    let cell = c.args.cell in
    let held = g.M.MapBoard.held c.args.self.now in
    by_cases c.spot.result c.spot.ensures c.is_some_and.ensures
    (λ n e. e ∙ sym (no_landing L steps landing cell held n))
    (λ s p e. let is = landing_there L steps landing cell held s.map.now s.place p in search rules)
