use Rattle.linkages.proofs.WorkedBoards.{row_example}
use Rattle.linkages.proofs.examples.row_example_stands.Goals as goal

pub returns : goal.returns
returns c = row_example
