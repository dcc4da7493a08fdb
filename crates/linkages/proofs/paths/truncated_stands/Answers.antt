use Rattle.linkages.proofs.Walks.{truncated}
use Rattle.linkages.proofs.paths.truncated_stands.Goals as goal

pub returns : goal.returns
returns c = truncated
