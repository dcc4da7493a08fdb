use Rattle.runs.proofs.SmallRuns.{small_runs}
use Rattle.runs.proofs.small.small_runs_stand.Goals as goal

pub returns : goal.returns
returns c = small_runs
