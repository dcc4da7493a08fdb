use Rattle.std.proofs.Common.{◌<◌, ◌≤◌, ◌∷◌, get_or, drop}
use Rattle.routing.specs.Courses.{Course}
use Rattle.routing.proofs.trace.trace.Given as goal

-- the cell at the place come to is written next: with it the course is whole from there on
abbrev pub invariant-loop-first : goal.invariant-loop-first
invariant-loop-first l = record {
  fits : l.place < l.first;
  so_far : l.place ≤ l.last;
  course : Course l.queue l.from l.last l.place (get_or l.queue l.place 0 ∷ drop l.first l.trail);
}
