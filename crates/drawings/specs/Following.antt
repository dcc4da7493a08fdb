-- A walk along a net.
use Rattle.std.specs.Prelude.{ℕ, List}
use Rattle.drawings.specs.declared.nets.Following.{Following}
use Rattle.drawings.specs.Nets.{onward}

-- the cells that are still to come
abbrev pub cells_left : Following → List ℕ
cells_left f = onward f.drawing.now f.next f.left
