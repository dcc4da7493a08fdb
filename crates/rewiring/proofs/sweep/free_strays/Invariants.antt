use Rattle.std.specs.List.{range_with_len}
use Rattle.std.proofs.Common.{filter}
use Rattle.drawings.specs.Outcomes.{Frees}
use Rattle.rewiring.specs.Marks.{is_stray}
use Rattle.rewiring.proofs.sweep.free_strays.Given as goal

-- the strays below the cell are freed
abbrev pub invariant-loop-cell : goal.invariant-loop-cell
invariant-loop-cell l = Frees (filter (is_stray l.initial.drawing l.marks) (range_with_len 0 l.cell)) l.initial.drawing l.drawing
