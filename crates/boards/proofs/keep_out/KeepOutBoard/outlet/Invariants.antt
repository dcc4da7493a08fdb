use Rattle.std.proofs.Common.{◌≡◌, ◌+◌, length, take}
use Rattle.boards.specs.KeepOuts.{is_closed}
use Rattle.boards.specs.Maps.{somes}
use Rattle.boards.specs.Kept.{outlets_if_open}
use Rattle.boards.proofs.keep_out.KeepOutBoard.outlet.Given as goal

-- the open outlets passed so far, and those still to pass, are j together
abbrev pub invariant-loop-i : goal.invariant-loop-i
invariant-loop-i g l =
    l.left + length (somes (take l.i (outlets_if_open (is_closed l.self.mask) (g.B.Board.meaning l.self.board) l.cell))) ≡ l.j
