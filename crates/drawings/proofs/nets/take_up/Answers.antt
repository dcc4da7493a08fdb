use Rattle.std.proofs.Common.{ap, ◌∙◌}
use Rattle.drawings.specs.Nets.{net}
use Rattle.drawings.specs.Changes.{laid}
use Rattle.drawings.proofs.Follow.{net_runs}
use Rattle.drawings.proofs.Relaying.{relaying_restores}
use Rattle.drawings.proofs.nets.take_up.Goals as goal

pub returns-in_err-net_length-clause-restores : goal.returns-in_err-net_length-clause-restores
returns-in_err-net_length-clause-restores c m W p =
    let d = c.args.drawing.now in
    let x = c.args.first in
    absurd (c.in_err-net_length.ensures (net d x) (net_runs m d W.local x p))

pub returns-clause-restores : goal.returns-clause-restores
returns-clause-restores c m W p =
    let d = c.args.drawing.now in
    let x = c.args.first in
    ap (laid (net d x)) c.free_from.ensures.frees ∙ relaying_restores m d x W p
