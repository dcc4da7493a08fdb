use Rattle.linkages.proofs.SameMembers.{fences_agree}
use Rattle.linkages.proofs.fences.fences_agree_stands.Goals as goal

pub returns : goal.returns
returns c = fences_agree
