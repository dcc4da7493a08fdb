use Rattle.jobs.proofs.Upholding.{jobs_uphold}
use Rattle.jobs.proofs.claims.jobs_uphold_stands.Goals as goal

pub returns : goal.returns
returns c = jobs_uphold
