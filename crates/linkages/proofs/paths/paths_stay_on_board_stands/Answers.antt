use Rattle.linkages.proofs.OnBoard.{paths_stay_on_board}
use Rattle.linkages.proofs.paths.paths_stay_on_board_stands.Goals as goal

pub returns : goal.returns
returns c = paths_stay_on_board
