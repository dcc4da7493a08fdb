use Rattle.std.proofs.Common.{arith}
use Rattle.std.proofs.lemmas.Bool.Decides.{nat_tests}
use Rattle.linkages.proofs.WorkedBoards.{shut_in_barred_row_decided}
use Rattle.linkages.proofs.examples.shut_in_barred_row.Goals as goal

pub returns : goal.returns
returns c = shut_in_barred_row_decided _ c.args.p (grind (arith, nat_tests)) (grind (arith, nat_tests))
