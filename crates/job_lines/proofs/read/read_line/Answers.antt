use Rattle.std.proofs.Common.{◌≡◌, ◌∙◌, rules}
use Rattle.job_lines.proofs.Cuts.{no_cut}
use Rattle.job_lines.proofs.Forms.{spelled_is, line_read, line_unread}
use Rattle.job_lines.specs.Verbs.{keyword}
use Rattle.job_lines.specs.declared.verb.Verb.{Verb}
use Rattle.job_lines.proofs.read.read_line.Goals as goal

pub returns-in_err-word : goal.returns-in_err-word
returns-in_err-word c =
    rw c.from_residual.ensures (λ f fit e. no_cut 32 _ _ _ c.in_err-word.ensures (e ∙ spelled_is f))

pub returns-in_err-verb : goal.returns-in_err-verb
returns-in_err-verb c =
    let unknown : (v : Verb) → c.in_ok-word.word.now ≡ keyword v → ⊥ = search rules in
    rw c.from_residual-in_err-verb.ensures (line_unread _ _ _ c.in_ok-word.ensures unknown)

pub returns : goal.returns
returns c =
    let is : c.in_ok-word.word.now ≡ keyword c.in_ok-verb.verb = search rules in
    line_read _ _ _ _ _ c.in_ok-word.ensures is c.read_rest.ensures
