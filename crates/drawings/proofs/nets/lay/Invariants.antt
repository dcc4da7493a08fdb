use Rattle.std.proofs.Common.{◌≡◌, length}
use Rattle.drawings.specs.Changes.{laid, laid_after}
use Rattle.drawings.proofs.nets.lay.Given as goal

abbrev pub invariant-loop-rest : goal.invariant-loop-rest
invariant-loop-rest l = laid_after l.before l.rest l.drawing ≡ laid l.cells l.initial.drawing

abbrev pub decreases-loop-rest : goal.decreases-loop-rest
decreases-loop-rest l = length l.rest
