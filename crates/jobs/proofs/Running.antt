-- Running a job on output memory.
use Rattle.std.proofs.Common.{◌≡◌, ℕ, ◌≤◌, List, length, Option, ⊎_elim, arith}
use Rattle.records.specs.declared.record.Record.{Record}
use Rattle.drawings.specs.Changes.{written}
use Rattle.job_lines.specs.declared.faults.LineFault.{LineFault}
use Rattle.job_lines.specs.Lines.{lines_of}
use Rattle.jobs.specs.declared.job.JobFault.{JobFault}
use Rattle.jobs.specs.Jobs.{Job, JobRun, run, TooLarge, line_fault}
use Rattle.jobs.proofs.Rooms.{lines_few, job_fits}

pub not_large : (text output : List ℕ) → length text ≤ 32768 → 24 ≤ length output → TooLarge text output → ⊥
not_large text output l r = ⊎_elim (λ h. omega arith) (λ h. omega arith)

module _ (text output : List ℕ) (d : List Record) (said : List ℕ) (x : Option LineFault) (few : length text ≤ 32768) (room : 24 ≤ length output)
    (job : Job (length output) (lines_of text) d said x) where
  pub said_fits : length said ≤ length output
  said_fits = job_fits room (omega (arith, lines_few text)) job

  pub ran : (output' : List ℕ) (n : ℕ) (f : Option JobFault) → output' ≡ written said output → n ≡ length said → f ≡ line_fault x →
      JobRun text output output' n f
  ran output' n f w l i = rw (i, l) (run (not_large text output few room) job said_fits w)
