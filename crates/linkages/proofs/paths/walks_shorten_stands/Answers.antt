use Rattle.linkages.proofs.Walks.{walks_shorten}
use Rattle.linkages.proofs.paths.walks_shorten_stands.Goals as goal

pub returns : goal.returns
returns c = walks_shorten
