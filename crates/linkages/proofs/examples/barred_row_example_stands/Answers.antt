use Rattle.linkages.proofs.WorkedBoards.{barred_row_example}
use Rattle.linkages.proofs.examples.barred_row_example_stands.Goals as goal

pub returns : goal.returns
returns c = barred_row_example
