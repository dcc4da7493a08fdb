use Rattle.std.proofs.Common.{arith}
use Rattle.std.proofs.lemmas.Bool.Decides.{nat_tests}
use Rattle.linkages.proofs.WorkedBoards.{fences_row_decided}
use Rattle.linkages.proofs.examples.fences_row.Goals as goal

pub returns : goal.returns
returns c = fences_row_decided _ c.args.c (grind (arith, nat_tests)) (grind (arith, nat_tests))
