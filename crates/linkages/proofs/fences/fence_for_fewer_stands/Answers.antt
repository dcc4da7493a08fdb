use Rattle.linkages.proofs.SameMembers.{fence_for_fewer}
use Rattle.linkages.proofs.fences.fence_for_fewer_stands.Goals as goal

pub returns : goal.returns
returns c = fence_for_fewer
