use Rattle.std.proofs.Common.{◌∙◌}
use native.Mathlib.Nat.{sub-zero}
use Rattle.jobs_c.proofs.Entering.{entered_at}
use Rattle.jobs_c.proofs.entry.sumoalder_run_job.Goals as goal

pub returns : goal.returns
returns c =
    entered_at c.args.job.now c.args.output.now c.run_job-end.new.output _ _ _ _ (sub-zero c.min-room.result ∙ c.min-room.ensures)
    c.run_job-end.auto.output c.run_job-end.ensures.runs c.number.ensures
