use Rattle.std.proofs.Common.{◌≡◌, ◌+◌, ◌≤◌, ◌++◌, length, take, drop}
use Rattle.std.specs.Iterator.Adapters.{enumerate_source, enumerate_count}
use Rattle.drawings.specs.Nets.{net}
use Rattle.drawings.specs.Following.{cells_left}
use Rattle.drawings.specs.Changes.{written}
use Rattle.drawings.proofs.nets.list_from.Given as goal

-- there is room for what is left, and writing it comes to the same
abbrev pub invariant-loop-place : goal.invariant-loop-place
invariant-loop-place l =
    (goal.iterator-loop-place).can_next l.place-iterator ×
    (goal.iterator-loop-place).is_finite l.place-iterator ×
    (enumerate_count l.place-iterator + length (cells_left (enumerate_source l.place-iterator)) ≤ length l.into) ×
    (take (enumerate_count l.place-iterator) l.into ++ written (cells_left (enumerate_source l.place-iterator)) (drop (enumerate_count l.place-iterator) l.into)
    ≡ written (net l.drawing l.first) l.initial.into)
