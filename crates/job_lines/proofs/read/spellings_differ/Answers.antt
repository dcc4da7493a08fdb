use Rattle.job_lines.proofs.Forms.{spellings_differ}
use Rattle.job_lines.proofs.read.spellings_differ.Goals as goal

pub returns : goal.returns
returns c = spellings_differ
