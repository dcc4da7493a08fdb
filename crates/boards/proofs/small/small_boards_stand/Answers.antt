use Rattle.boards.proofs.SmallBoards.{small_boards}
use Rattle.boards.proofs.small.small_boards_stand.Goals as goal

pub returns : goal.returns
returns c = small_boards
