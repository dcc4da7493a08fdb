use Rattle.std.proofs.Common.{◌≡◌, ℕ, ltb, take, filter}
use Rattle.boards.specs.KeepOuts.{is_closed}
use Rattle.job_boards.specs.Plans.{among}
use Rattle.job_boards.proofs.closing.keep_out.Given as goal

-- the board stays, and what is closed are the cells among the numbers so far
abbrev pub invariant-loop-cell : goal.invariant-loop-cell
invariant-loop-cell g l =
    (l.over.board ≡ l.initial.over.board)
    × ((c : ℕ) → is_closed l.over.mask c ≡ among (filter (λ x. ltb x (g.B.Board.meaning l.over.board).cells) (take l.cell-index l.kept)) c)
