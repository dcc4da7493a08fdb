use Rattle.std.proofs.Common.{vec_items, ap}
use Rattle.std.proofs.lemmas.Result.{IfOk-weaker}
use Rattle.jobs.specs.Steps.{wish_of}
use Rattle.jobs.proofs.Calling.{call_answered}
use Rattle.jobs.proofs.calls.Setting.follow.Goals as goal

pub returns-in-Call-clause-answered : goal.returns-in-Call-clause-answered
returns-in-Call-clause-answered g c =
    let b = c.args.self.now.board.now in
    IfOk-weaker c.answer_line.result _ _
    (λ v e. call_answered (g.B.Board.meaning b) (g.B.PlacedBoard.places b) _ _ c.in-Call.kind c.args.order.place c.make_call.result (vec_items v)
    (ap wish_of c.in-Call.is) c.make_call.ensures.called e)
    c.answer_line.ensures
