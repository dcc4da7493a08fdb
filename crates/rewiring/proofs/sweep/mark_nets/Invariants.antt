use Rattle.rewiring.proofs.Marking.{MarkedBelow}
use Rattle.rewiring.proofs.sweep.mark_nets.Given as goal

abbrev pub invariant-loop-cell : goal.invariant-loop-cell
invariant-loop-cell g l = MarkedBelow l.drawing l.marks l.cell
