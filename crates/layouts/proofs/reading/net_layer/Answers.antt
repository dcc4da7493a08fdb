use Rattle.std.proofs.Common.{rules}
use Rattle.layouts.proofs.Readers.{layer_told}
use Rattle.layouts.proofs.reading.net_layer.Goals as goal

pub returns-then-is_some_and : goal.returns-then-is_some_and
returns-then-is_some_and g c =
    layer_told (g.B.PlacedBoard.places c.args.board.now) c.args.drawing.now c.args.pad c.nth.result c.nth.new.self c.follow.ensures.cells c.nth.ensures.ran
    c.if-is_some_and.true c.is_some_and.ensures (λ t q. search rules)

pub returns-else-is_some_and : goal.returns-else-is_some_and
returns-else-is_some_and g c =
    layer_told (g.B.PlacedBoard.places c.args.board.now) c.args.drawing.now c.args.pad c.nth.result c.nth.new.self c.follow.ensures.cells c.nth.ensures.ran
    c.if-is_some_and.false c.is_some_and.ensures (λ t q. search rules)
