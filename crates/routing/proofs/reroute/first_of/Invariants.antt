use Rattle.std.proofs.Common.{◌≡◌, ◌-◌, true, length}
use Rattle.linkages.specs.Lists.{Mem}
use Rattle.drawings.specs.Nets.{net_at, net, Runs}
use Rattle.routing.proofs.reroute.first_of.Given as goal

-- the net goes on from the cell come to, and the cell asked about is still on it
abbrev pub invariant-loop-before : goal.invariant-loop-before
invariant-loop-before l =
    (net_at l.drawing l.first ≡ true) × Runs l.drawing l.first (net l.drawing l.first) ×
    Mem l.cell (net l.drawing l.first)

abbrev pub decreases-loop-before : goal.decreases-loop-before
decreases-loop-before l = length l.drawing - length (net l.drawing l.first)
