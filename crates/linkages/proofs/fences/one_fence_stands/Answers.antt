use Rattle.linkages.proofs.OneFence.{one_fence}
use Rattle.linkages.proofs.fences.one_fence_stands.Goals as goal

pub returns : goal.returns
returns c = one_fence
