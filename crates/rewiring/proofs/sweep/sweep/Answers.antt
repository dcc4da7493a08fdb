use Rattle.rewiring.proofs.Sweeping.{swept}
use Rattle.rewiring.proofs.sweep.sweep.Goals as goal

pub returns : goal.returns
returns g c =
    swept c.args.drawing.now c.mark_nets.new.marks c.mark_nets.ensures (g.B.Board.meaning c.args.board.now) c.free_strays.new.drawing
    c.requires.local c.free_strays.ensures c.requires.long
