use Rattle.linkages.proofs.Places.{by_places}
use Rattle.linkages.proofs.paths.by_places_stands.Goals as goal

pub returns : goal.returns
returns c = by_places
