use Rattle.std.proofs.Common.{length, refl, ap, ◌∙◌, inl, inr, ⊎_elim, arith, rules}
use Rattle.drawings.specs.Changes.{written}
use Rattle.jobs.specs.Jobs.{too_large, no_memory}
use Rattle.jobs.proofs.Running.{not_large, said_fits, ran}
use Rattle.jobs.proofs.job.run_job.Goals as goal

pub returns-then-job-gt-JOB_MAX-clause-runs : goal.returns-then-job-gt-JOB_MAX-clause-runs
returns-then-job-gt-JOB_MAX-clause-runs c = too_large (⊎_elim (λ h. inl h) (λ h. inr h.1) c.then-job-gt-JOB_MAX.either) refl

pub returns-in_default-clause-runs : goal.returns-in_default-clause-runs
returns-in_default-clause-runs c = no_memory (not_large c.args.job.now c.args.output.now c.if-job-gt-JOB_MAX.false c.if-output-lt-OUTPUT_MIN.false) refl

pub write_front-requires : goal.write_front-requires
write_front-requires c =
    omega (arith, said_fits c.args.job.now c.args.output.now _ _ _ c.if-job-gt-JOB_MAX.false c.if-output-lt-OUTPUT_MIN.false c.in-Ok.ensures, ap length c.as_slice.ensures.value)

pub returns : goal.returns
returns c =
    let said = c.in-Ok.transcript.said in
    let fits = said_fits c.args.job.now c.args.output.now _ _ _ c.if-job-gt-JOB_MAX.false c.if-output-lt-OUTPUT_MIN.false c.in-Ok.ensures in
    record {
      runs = ran c.args.job.now c.args.output.now _ _ _ c.if-job-gt-JOB_MAX.false c.if-output-lt-OUTPUT_MIN.false c.in-Ok.ensures _ _ _
          (c.write_front.ensures ∙ ap (λ x. written x c.args.output.now) c.as_slice.ensures.value)
          (c.len.ensures ∙ said.ok.0) (search rules);
      within = omega (arith, fits, c.len.ensures, said.ok.0);
    }
