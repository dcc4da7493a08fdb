use Rattle.std.proofs.Common.{[], rules}
use Rattle.job_boards.proofs.Stable.{allowed_else}
use Rattle.job_boards.proofs.headers.sided.Goals as goal

pub invariant_of-result : goal.invariant_of-result
invariant_of-result c = record { allowed = allowed_else c.args.kind _ _ [] c.check_map.result c.check_map.ensures (search rules) }
