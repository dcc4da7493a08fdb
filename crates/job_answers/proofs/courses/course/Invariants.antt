use Rattle.std.proofs.Common.{vec_items}
use Rattle.std.specs.Iterator.Adapters.{zip_first, zip_second}
use Rattle.std.specs.Slice.Iter.{iter_rest}
use Rattle.job_answers.proofs.Steps.{Passed}
use Rattle.job_answers.proofs.courses.course.Given as goal

-- the letters so far are those of the cells passed
abbrev pub invariant-loop-from : goal.invariant-loop-from
invariant-loop-from g l =
    Passed (g.B.PlacedBoard.places l.board) l.cells (iter_rest (zip_first l.from-iterator)) (iter_rest (zip_second l.from-iterator)) (vec_items l.letters)
