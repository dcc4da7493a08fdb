use Rattle.std.proofs.Common.{◌≡◌, length}
use Rattle.drawings.specs.Nets.{net, last_of, Runs}
use Rattle.drawings.specs.Changes.{freed}
use Rattle.drawings.proofs.nets.free_from.Given as goal

-- what is left of the net ends as the net does, and freeing it comes to the same
abbrev pub invariant-loop-next : goal.invariant-loop-next
invariant-loop-next l =
    Runs l.drawing l.cell (net l.drawing l.cell) ×
    (last_of l.cell (net l.drawing l.cell) ≡ last_of l.first (net l.initial.drawing l.first)) ×
    (freed (net l.drawing l.cell) l.drawing ≡ freed (net l.initial.drawing l.first) l.initial.drawing)

abbrev pub decreases-loop-next : goal.decreases-loop-next
decreases-loop-next l = length (net l.drawing l.cell)
