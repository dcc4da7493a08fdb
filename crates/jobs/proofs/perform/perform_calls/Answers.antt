use Rattle.std.proofs.Common.{sym, subst}
use Rattle.boards.specs.KeepOuts.{keep_out, is_closed}
use Rattle.jobs.specs.Steps.{Site}
use Rattle.jobs.proofs.Sites.{board_site}
use Rattle.jobs.proofs.perform.perform_calls.Goals as goal

pub returns : goal.returns
returns g c = λ p d.
    let over = c.keep_out-board.result in
    let S : g.row.B.Denot → Type 0 =
    λ b. Site p (keep_out (is_closed over.mask) (g.B.Board.meaning b)) (g.B.PlacedBoard.places b) c.args.pads.now in
    c.in_ok-said.ensures p (subst S (sym c.keep_out-board.ensures.over) (board_site p _ _ _ _ (is_closed over.mask) d c.keep_out-board.ensures.closed))
