use Rattle.linkages.proofs.SameMembers.{fence_by_members}
use Rattle.linkages.proofs.fences.fence_by_members_stands.Goals as goal

pub returns : goal.returns
returns c = fence_by_members
