use Rattle.job_lines.proofs.Cuts.{no_cut, same_parts}
use Rattle.job_lines.proofs.Spaceless.{number_lacks}
use Rattle.job_lines.proofs.read.read_point.Goals as goal

pub returns-in_err-first : goal.returns-in_err-first
returns-in_err-first c =
    rw c.from_residual.ensures (λ p fit e. no_cut 32 _ _ _ c.in_err-first.ensures e)

pub returns-in_err-read_number : goal.returns-in_err-read_number
returns-in_err-read_number c =
    rw c.from_residual-in_err-read_number.ensures (λ p fit e.
    let both = same_parts 32 _ _ _ _ _ c.in_ok-first.ensures (number_lacks p.0 fit.0) e in
    c.in_err-read_number.ensures p.0 fit.0 both.0)

pub returns-in_err-read_number-2 : goal.returns-in_err-read_number-2
returns-in_err-read_number-2 c =
    rw c.from_residual-in_err-read_number-2.ensures (λ p fit e.
    let both = same_parts 32 _ _ _ _ _ c.in_ok-first.ensures (number_lacks p.0 fit.0) e in
    c.in_err-read_number-2.ensures p.1 fit.1 both.1)
