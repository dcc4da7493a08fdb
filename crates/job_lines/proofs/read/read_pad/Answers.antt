use Rattle.job_lines.proofs.Cuts.{no_cut, same_parts}
use Rattle.job_lines.proofs.Spaceless.{name_lacks}
use Rattle.job_lines.proofs.read.read_pad.Goals as goal

pub returns-in_err-first : goal.returns-in_err-first
returns-in_err-first c =
    rw c.from_residual.ensures (λ p fit e. no_cut 32 _ _ _ c.in_err-first.ensures e)

pub returns-in_err-name : goal.returns-in_err-name
returns-in_err-name c =
    rw c.from_residual-in_err-name.ensures (λ p fit e.
    let both = same_parts 32 _ _ _ _ _ c.in_ok-first.ensures (name_lacks p.0 fit.0) e in
    c.in_err-name.ensures p.0 fit.0 both.0)

pub returns-in_err-row : goal.returns-in_err-row
returns-in_err-row c =
    rw c.from_residual-in_err-row.ensures (λ p fit e.
    let both = same_parts 32 _ _ _ _ _ c.in_ok-first.ensures (name_lacks p.0 fit.0) e in
    c.in_err-row.ensures (p.1, p.2) (fit.1, fit.2) both.1)
