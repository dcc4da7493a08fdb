use Rattle.std.proofs.lemmas.Iterator.Consumers.{YieldsList-from_first, count_from_yields_List}
use Rattle.drawings.specs.Nets.{net}
use Rattle.drawings.specs.Following.{cells_left}
use Rattle.drawings.proofs.lawful.reached_from.Goals as goal

pub returns : goal.returns
returns c =
    count_from_yields_List c.follow.result c.count.result c.count.ensures.ran (YieldsList-from_first (λ x. x) cells_left (net c.args.drawing.now c.args.first) c.follow.ensures.cells)
