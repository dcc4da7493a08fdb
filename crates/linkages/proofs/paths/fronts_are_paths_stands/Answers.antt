use Rattle.linkages.proofs.Walks.{fronts_are_paths}
use Rattle.linkages.proofs.paths.fronts_are_paths_stands.Goals as goal

pub returns : goal.returns
returns c = fronts_are_paths
