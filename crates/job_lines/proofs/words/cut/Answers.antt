use Rattle.std.proofs.Common.{rules}
use Rattle.std.proofs.iter.runs.Made.{chains}
use Rattle.job_lines.proofs.Cuts.{cut_at}
use Rattle.job_lines.proofs.words.cut.Goals as goal

pub returns : goal.returns
returns c = cut_at _ _ _ (search (rules, chains)) (search (rules, chains)) (search (rules, chains))
