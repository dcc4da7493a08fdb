use Rattle.linkages.proofs.Pigeons.{pigeonhole}
use Rattle.linkages.proofs.fences.pigeonhole_stands.Goals as goal

pub returns : goal.returns
returns c = pigeonhole
