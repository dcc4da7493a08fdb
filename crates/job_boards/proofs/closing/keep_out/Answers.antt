use Rattle.std.proofs.Common.{ap, ◌∙◌}
use Rattle.job_boards.proofs.Closings.{closed_more, closed_all}
use Rattle.job_boards.proofs.closing.keep_out.Goals as goal

pub loop-cell-preserved : goal.loop-cell-preserved
loop-cell-preserved g c = (
  c.close.ensures.same_board ∙ c.loop-cell.invariant.0,
  closed_more _ _ (ap g.B.Board.meaning c.close.ensures.same_board) _ _ c.loop-cell-test.true _ _ _ _ c.close.ensures.answer c.close.ensures.closes c.loop-cell.invariant.1,
)

pub returns : goal.returns
returns g c =
    let same = c.loop-cell.invariant.0 ∙ c.new-over.ensures.over in
    record { over = same; closed = closed_all _ _ (ap g.B.Board.meaning same) _ _ c.loop-cell-test.false _ c.loop-cell.invariant.1 }
