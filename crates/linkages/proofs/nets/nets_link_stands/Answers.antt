use Rattle.linkages.proofs.NetLists.{nets_link}
use Rattle.linkages.proofs.nets.nets_link_stands.Goals as goal

pub returns : goal.returns
returns c = nets_link
