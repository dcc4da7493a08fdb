use Rattle.std.proofs.Common.{ap, ◌∙◌, subst}
use Rattle.std.proofs.lemmas.Result.{err_from_is_err_and}
use Rattle.std.specs.Option.{ok_or}
use Rattle.std.specs.Result.{result_ok}
use Rattle.boards.specs.Refusals.{Answer}
use Rattle.records.specs.declared.refusal.Refusal.TheVariants.{NotWired}
use Rattle.records.specs.Numbers.{number_of}
use Rattle.drawings.specs.Conditions.{LiftRefused}
use Rattle.drawings.specs.Outcomes.{Lifted}
use Rattle.drawings.proofs.Accepted.{lift_first, taken, lift_answer}
use Rattle.drawings.proofs.calls.lift.Goals as goal

pub returns-in_err-check_wired_pad-clause-answer :
    goal.returns-in_err-check_wired_pad-clause-answer
returns-in_err-check_wired_pad-clause-answer g c =
    let m = g.B.Board.meaning c.args.board.now in
    let p = err_from_is_err_and c.from_residual-in_err-check_wired_pad.result c.from_residual-in_err-check_wired_pad.ensures.1 in
    rw (p.1, p.2) (lift_first m c.args.drawing.now c.args.cell _ c.in_ok-check_size.ensures.1 c.in_err-check_wired_pad.ensures)

pub returns-in_err-landing-clause-answer : goal.returns-in_err-landing-clause-answer
returns-in_err-landing-clause-answer g c =
    let m = g.B.Board.meaning c.args.board.now in
    let none = c.ok_or.ensures.ok_part ∙ ap result_ok c.in_err-landing.was in
    absurd (taken m c.args.drawing.now c.args.cell c.take_up.new.drawing c.take_up.result c.in_ok-check_wired_pad.ensures.1 c.take_up.ensures.answer none)

pub returns-clause-answer : goal.returns-clause-answer
returns-clause-answer g c =
    let m = g.B.Board.meaning c.args.board.now in
    let d = c.args.drawing.now in
    let x = c.args.cell in
    let e = c.take_up.new.drawing in
    let W = c.in_ok-check_wired_pad.ensures in
    let some = c.ok_or.ensures.ok_part ∙ ap result_ok c.in_ok-landing.was in
    subst (λ r. Answer number_of (LiftRefused m d x) (Lifted m d e x) (ok_or r NotWired)) some
    (lift_answer m d x e c.take_up.result c.in_ok-check_size.ensures.1 W.0 W.1 c.take_up.ensures.answer)
