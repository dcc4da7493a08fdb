use Rattle.std.proofs.Common.{◌≡◌, map, get_or, Some, None, vec_items, sym, ◌∙◌, arith, take_all}
use lib.ListN.{length-map}
use Rattle.std.proofs.lemmas.List.{get_or-map}
use Rattle.boards.specs.declared.place.Step.TheVariants.{North}
use Rattle.boards.specs.Maps.{way, somes}
use Rattle.boards.specs.Lists.{at_past}
use Rattle.boards.specs.Somes.{somes_more, somes_same, at_somes}
use Rattle.boards.proofs.grid.Spot.outlet.Goals as goal
use Rattle.boards.proofs.grid.Spot.outlet.Goals.{in-Some+else-left-eq0, in_default}

pub returns-then-left-eq0 : goal.returns-then-left-eq0
returns-then-left-eq0 g c =
    let s = c.args.self.now in
    let m = s.map.now in
    let f = way g.G.Grid.LAYERS m.rows m.columns (vec_items m.bytes) s.place in
    let steps = c.steps-step-items.result.now in
    let i = c.loop-step.step-index in
    let e : get_or (map f steps) i None ≡ Some c.in-Some.next = get_or-map f steps i North None c.loop-step-test.true ∙ sym c.in-Some.ensures in
    rw (← c.steps-step-items.ensures) (sym (at_somes (map f steps) i c.args.j c.in-Some.next e (omega arith)))

pub loop-step-preserved : goal.loop-step-preserved
loop-step-preserved g c =
    let s = c.args.self.now in
    let m = s.map.now in
    let f = way g.G.Grid.LAYERS m.rows m.columns (vec_items m.bytes) s.place in
    let steps = c.steps-step-items.result.now in
    let i = c.loop-step.step-index in
    let is = get_or-map f steps i North None c.loop-step-test.true in
    elim c.match-way.branch [
      | in-Some+else-left-eq0 w ↦
          let k = somes_more (map f steps) i w.in-Some.next (is ∙ sym w.in-Some.ensures) in
          omega (arith, w.left-is, w.if-left-eq0.false, c.loop-step.invariant)
      | in_default w ↦
          let k = somes_same (map f steps) i (is ∙ sym w.in_default.ensures) in
          omega (arith, w.left-is, c.loop-step.invariant)
    ]

pub returns : goal.returns
returns g c =
    let s = c.args.self.now in
    let m = s.map.now in
    let f = way g.G.Grid.LAYERS m.rows m.columns (vec_items m.bytes) s.place in
    let steps = c.steps-step-items.result.now in
    let all = take_all c.loop-step.step-index (map f steps) (simp length-map c.loop-step-test.false) in
    let inv = rw all at c.loop-step.invariant in
    rw (← c.steps-step-items.ensures) (sym (at_past (somes (map f steps)) c.args.j (omega arith)))
