use Rattle.std.proofs.Common.{◌≡◌, ◌+◌, ◌≤◌, ◌++◌, length, take, drop}
use Rattle.drawings.specs.Nets.{net}
use Rattle.drawings.specs.Following.{cells_left}
use Rattle.layouts.specs.Readings.{points_on, places_of, points_written}
use Rattle.layouts.proofs.reading.list_points.Given as goal

-- there is room for what is left, and writing it comes to the same
abbrev pub invariant-loop-cell : goal.invariant-loop-cell
invariant-loop-cell g l =
    let left = points_on l.layer (places_of (g.B.PlacedBoard.places l.board) (cells_left l.cell-iterator)) in
    let whole = points_on l.layer (places_of (g.B.PlacedBoard.places l.board) (net l.drawing l.pad)) in
    (l.count + length (cells_left l.cell-iterator) ≤ length l.points) ×
    (l.count + length left ≡ length whole) ×
    (take l.count l.points ++ points_written left (drop l.count l.points) ≡ points_written whole l.initial.points)
