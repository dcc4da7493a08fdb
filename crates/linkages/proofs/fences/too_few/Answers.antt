use Rattle.std.proofs.Common.{arith}
use Rattle.std.proofs.lemmas.Bool.Decides.{nat_tests}
use Rattle.linkages.proofs.Counting.{decided_by_count}
use Rattle.linkages.proofs.fences.too_few.Goals as goal

pub returns : goal.returns
returns c = decided_by_count _ c.args.cells c.args.pads (grind (arith, nat_tests)) (grind (arith, nat_tests))
