-- What the editor is answered.
use Rattle.std.specs.Prelude.{◌≡◌, ℕ, ◌+◌, ◌*◌, ◌^◌, min, List, length, take, drop, Option}
use Rattle.jobs.specs.declared.job.JobFault.{JobFault}
use Rattle.jobs.specs.Jobs.{end_number, JobRun}

-- so much of the output memory is used: all of it, up to 2^40 bytes
abbrev pub used : List ℕ → ℕ
used output = min (length output) (2 ^ 40)

-- the job is run on that part, the rest is as before, and the answer is the bytes written x 256 + the number of the fault
pub record Entered (text output output' : List ℕ) (answer : ℕ) : Type 0 where
  pub bytes : ℕ
  pub fault : Option JobFault
  pub runs : JobRun text (take (used output) output) (take (used output) output') bytes fault
  pub rest : drop (used output) output' ≡ drop (used output) output
  pub answered : answer ≡ bytes * 256 + end_number fault
