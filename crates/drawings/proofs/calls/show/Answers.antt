use Rattle.std.proofs.Common.{length, Some, ap, ◌∙◌, arith}
use Rattle.std.proofs.lemmas.Result.{err_from_is_err_and}
use Rattle.std.specs.Result.{result_ok}
use Rattle.drawings.proofs.Accepted.{show_first, show_allowed, listed, show_told}
use Rattle.drawings.proofs.Follow.{onward_short}
use Rattle.drawings.proofs.calls.show.Goals as goal

pub returns-in_err-check_wired_pad-clause-answer :
    goal.returns-in_err-check_wired_pad-clause-answer
returns-in_err-check_wired_pad-clause-answer g c =
    let m = g.B.Board.meaning c.args.board.now in
    let p = err_from_is_err_and c.from_residual-in_err-check_wired_pad.result c.from_residual-in_err-check_wired_pad.ensures.1 in
    rw (p.1, p.2) (show_first m c.args.drawing.now c.args.report.now c.args.cell _ c.in_ok-check_size.ensures.1 (omega arith) c.in_err-check_wired_pad.ensures)

pub returns-in_err-count-clause-answer : goal.returns-in_err-count-clause-answer
returns-in_err-count-clause-answer g c =
    let m = g.B.Board.meaning c.args.board.now in
    let none = c.ok_or.ensures.ok_part ∙ ap result_ok c.in_err-count.was in
    absurd (listed m c.args.drawing.now c.args.cell c.args.report.now c.list_net.new.into c.list_net.result c.in_ok-check_wired_pad.ensures.1 (omega arith) c.list_net.ensures none)

pub overflow_cast-result : goal.overflow_cast-result
overflow_cast-result g c =
    let m = g.B.Board.meaning c.args.board.now in
    let some = c.ok_or.ensures.ok_part ∙ ap result_ok c.in_ok-count.was in
    let s = show_told m c.args.drawing.now c.args.cell c.args.report.now c.list_net.new.into c.list_net.result c.in_ok-count.count c.in_ok-check_wired_pad.ensures.1 c.list_net.ensures some in
    omega (arith, s.count, onward_short c.args.drawing.now (Some c.args.cell) (length c.args.drawing.now), c.in_ok-check_size.ensures.1, (g.met.B.Board.bounded c.args.board.now).few_cells)

pub returns-clause-answer : goal.returns-clause-answer
returns-clause-answer g c =
    let m = g.B.Board.meaning c.args.board.now in
    let d = c.args.drawing.now in
    let x = c.args.cell in
    let report = c.args.report.now in
    let W = c.in_ok-check_wired_pad.ensures in
    let some = c.ok_or.ensures.ok_part ∙ ap result_ok c.in_ok-count.was in
    (show_allowed m d x report (omega arith) c.in_ok-check_size.ensures.1 W.0, show_told m d x report c.list_net.new.into c.list_net.result c.in_ok-count.count W.1 c.list_net.ensures some)
