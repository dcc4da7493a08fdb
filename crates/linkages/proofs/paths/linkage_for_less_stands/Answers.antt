use Rattle.linkages.proofs.Fewer.{linkage_for_less}
use Rattle.linkages.proofs.paths.linkage_for_less_stands.Goals as goal

pub returns : goal.returns
returns c = linkage_for_less
