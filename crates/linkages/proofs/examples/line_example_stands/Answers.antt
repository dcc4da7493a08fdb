use Rattle.linkages.proofs.WorkedBoards.{line_example}
use Rattle.linkages.proofs.examples.line_example_stands.Goals as goal

pub returns : goal.returns
returns c = line_example
