use Rattle.std.proofs.Common.{refl, rules}
use Rattle.job_lines.proofs.Ends.{first_of}
use Rattle.job_lines.proofs.lines.next_line.Goals as goal

pub returns : goal.returns
returns c = rw c.unwrap_or.ensures (first_of _ _ _ (search rules) c.cut.ensures refl refl)
