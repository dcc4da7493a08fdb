use Rattle.linkages.proofs.WorkedBoards.{lone_example}
use Rattle.linkages.proofs.examples.lone_example_stands.Goals as goal

pub returns : goal.returns
returns c = lone_example
