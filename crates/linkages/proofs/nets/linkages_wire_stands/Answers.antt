use Rattle.linkages.proofs.Wired.{linkages_wire}
use Rattle.linkages.proofs.nets.linkages_wire_stands.Goals as goal

pub returns : goal.returns
returns c = linkages_wire
