use Rattle.linkages.proofs.SearchFence.{trapped_cannot_be_met}
use Rattle.linkages.proofs.nets.trapped_cannot_be_met_stands.Goals as goal

pub returns : goal.returns
returns c = trapped_cannot_be_met
