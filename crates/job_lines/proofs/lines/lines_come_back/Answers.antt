use Rattle.job_lines.proofs.Ends.{come_back}
use Rattle.job_lines.proofs.lines.lines_come_back.Goals as goal

pub returns : goal.returns
returns c = come_back
