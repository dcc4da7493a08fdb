use Rattle.std.proofs.Common.{◌≡◌, ◌+◌, map, length, take, vec_items}
use Rattle.boards.specs.Maps.{way, somes}
use Rattle.boards.proofs.grid.Spot.outlet.Given as goal

-- the open ways passed so far, and those still to pass, are j together
abbrev pub invariant-loop-step : goal.invariant-loop-step
invariant-loop-step g l =
    let s = l.self in
    let m = s.map.now in
    l.left + length (somes (take l.step-index (map (way g.G.Grid.LAYERS m.rows m.columns (vec_items m.bytes) s.place) l.step-items))) ≡ l.j
