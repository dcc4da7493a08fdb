use Rattle.linkages.proofs.OneFence.{no_linkage}
use Rattle.linkages.proofs.fences.no_linkage_stands.Goals as goal

pub returns : goal.returns
returns c = no_linkage
