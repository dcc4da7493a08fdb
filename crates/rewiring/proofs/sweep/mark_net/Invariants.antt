use Rattle.std.proofs.Common.{◌≡◌}
use Rattle.drawings.specs.Nets.{net}
use Rattle.drawings.specs.Following.{cells_left}
use Rattle.rewiring.specs.Marks.{marked}
use Rattle.rewiring.proofs.sweep.mark_net.Given as goal

-- marking what is left of the net comes to the same
abbrev pub invariant-loop-cell : goal.invariant-loop-cell
invariant-loop-cell l =
    marked (cells_left l.cell-iterator) l.marks ≡ marked (net l.drawing l.first) l.initial.marks
