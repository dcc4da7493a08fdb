-- The call from C: a job is run on the front of the output memory.
use Rattle.std.proofs.Common.{◌≡◌, ℕ, ◌+◌, ◌*◌, ◌^◌, ◌≤◌, List, ◌++◌, length, take, drop, Option, sym, ap, ◌∙◌, subst}
use native.Mathlib.Nat.{min-le_left}
use Rattle.std.proofs.lemmas.List.{length-take-le, take_at, drop_at}
use Rattle.jobs.specs.declared.job.JobFault.{JobFault}
use Rattle.jobs.specs.Jobs.{end_number, JobRun}
use Rattle.jobs_c.specs.Entry.{Entered, used}

module _ (text output part : List ℕ) (bytes number : ℕ) (fault : Option JobFault) where
  pub entered_at : (u : ℕ) → u ≡ used output → length part ≡ length (take u output) → JobRun text (take u output) part bytes fault → number ≡ end_number fault →
      Entered text output (part ++ drop u output) (bytes * 256 + number)
  entered_at u e l J i =
      let n : used output ≤ length output = min-le_left (length output) (2 ^ 40) in
      let long : length part ≡ used output = l ∙ ap (λ k. length (take k output)) e ∙ length-take-le (used output) output n in
      record {
        bytes = bytes;
        fault = fault;
        runs = subst (λ (xs : List ℕ). JobRun text (take (used output) output) xs bytes fault) (sym (take_at part (drop u output) (used output) long))
            (subst (λ (k : ℕ). JobRun text (take k output) part bytes fault) e J);
        rest = drop_at part (drop u output) (used output) long ∙ ap (λ k. drop k output) e;
        answered = ap (λ k. bytes * 256 + k) i;
      }
