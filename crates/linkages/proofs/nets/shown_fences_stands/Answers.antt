use Rattle.linkages.proofs.SearchFence.{shown_fences}
use Rattle.linkages.proofs.nets.shown_fences_stands.Goals as goal

pub returns : goal.returns
returns c = shown_fences
