use Rattle.std.proofs.Common.{◌≡◌, Some, refl, ap, ◌∙◌, inl, ⊎_elim}
use Rattle.std.proofs.lemmas.Result.{err_from_is_err_and}
use Rattle.job_lines.specs.declared.line.Line.{Line}
use Rattle.job_boards.specs.Faults.{wrong}
use Rattle.job_boards.specs.Reading.{plan_of}
use Rattle.job_boards.proofs.Entries.{read, unread, line_entered}
use Rattle.job_boards.proofs.entering.enter_line.Goals as goal

pub returns-in_err-name : goal.returns-in_err-name
returns-in_err-name c =
    let p = err_from_is_err_and c.from_residual.result c.from_residual.ensures.1 in
    rw (p.1, p.2) (unread _ _ _ _ c.read_line.ensures c.in_err-name.ensures.value, refl)

pub returns-in-Pad : goal.returns-in-Pad
returns-in-Pad c =
    line_entered (plan_of c.args.plan.now) (plan_of c.enter_pad.new.plan) _ _ c.enter_pad.result
    (read _ _ _ c.read_line.ensures (c.in_ok-name.ensures.ok_part ∙ ap Some c.in-Pad.is)) tt c.enter_pad.ensures

pub returns-in-Land : goal.returns-in-Land
returns-in-Land c =
    line_entered (plan_of c.args.plan.now) (plan_of c.enter_land.new.plan) _ _ c.enter_land.result
    (read _ _ _ c.read_line.ensures (c.in_ok-name.ensures.ok_part ∙ ap Some c.in-Land.is)) tt c.enter_land.ensures

pub returns-in-Keep : goal.returns-in-Keep
returns-in-Keep c =
    line_entered (plan_of c.args.plan.now) (plan_of c.enter_keep.new.plan) _ _ c.enter_keep.result
    (read _ _ _ c.read_line.ensures (c.in_ok-name.ensures.ok_part ∙ ap Some c.in-Keep.is)) tt c.enter_keep.ensures

pub returns-in-Field : goal.returns-in-Field
returns-in-Field c =
    let says = λ (k : Line) (e : c.in_ok-name.field-0 ≡ k). read _ _ _ c.read_line.ensures (c.in_ok-name.ensures.ok_part ∙ ap Some e) in
    rw c.into.ensures (⊎_elim (λ x. wrong (says _ x.2) (inl (refl, tt))) (λ x. wrong (says _ x.2) (inl (refl, tt))) c.in-Field.is, refl)
