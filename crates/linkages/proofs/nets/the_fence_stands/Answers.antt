use Rattle.linkages.proofs.SearchFence.{the_fence}
use Rattle.linkages.proofs.nets.the_fence_stands.Goals as goal

pub returns : goal.returns
returns c = the_fence
