use Rattle.std.proofs.Common.{length, Some, arith}
use Rattle.drawings.proofs.Follow.{onward_short}
use Rattle.drawings.proofs.nets.follow.Goals as goal

pub returns-clause-bound : goal.returns-clause-bound
returns-clause-bound c = omega (arith, onward_short c.args.drawing.now (Some c.args.first) (length c.args.drawing.now))
