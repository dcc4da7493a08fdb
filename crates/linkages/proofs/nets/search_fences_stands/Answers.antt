use Rattle.linkages.proofs.SearchFence.{search_fences}
use Rattle.linkages.proofs.nets.search_fences_stands.Goals as goal

pub returns : goal.returns
returns c = search_fences
