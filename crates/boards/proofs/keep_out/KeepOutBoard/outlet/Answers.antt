use Rattle.std.proofs.Common.{◌≤◌, length, sym, ◌∙◌, arith, take_all}
use lib.ListN.{length-map}
use Rattle.boards.specs.KeepOuts.{is_closed}
use Rattle.boards.specs.Maps.{somes}
use Rattle.boards.specs.Lists.{at_past}
use Rattle.boards.specs.Somes.{somes_more, somes_same, at_somes}
use Rattle.boards.specs.Kept.{outlets_if_open, if_open_at, outlet_closed, outlet_open}
use Rattle.boards.proofs.keep_out.KeepOutBoard.outlet.Goals as goal
use Rattle.boards.proofs.keep_out.KeepOutBoard.outlet.Goals.{in-Some+else-left-eq0, in_default}

pub returns-then-is_closed : goal.returns-then-is_closed
returns-then-is_closed g c =
    let b = c.args.self.now.board in
    let closed = is_closed c.args.self.now.mask in
    sym (outlet_closed closed (g.B.Board.meaning b) (g.met.B.Board.bounded b) c.args.cell c.args.j (sym c.if-is_closed.ensures))

pub returns-then-left-eq0 : goal.returns-then-left-eq0
returns-then-left-eq0 g c =
    let closed = is_closed c.args.self.now.mask in
    let b = c.args.self.now.board in
    let m = g.B.Board.meaning b in
    let cell = c.args.cell in
    let i = c.loop-i.i in
    let o = outlet_open closed m (g.met.B.Board.bounded b) cell c.args.j (sym c.if-is_closed.ensures) in
    let e = if_open_at closed m cell i ∙ sym c.in-Some.ensures in
    sym (o ∙ at_somes (outlets_if_open closed m cell) i c.args.j c.in-Some.next e (omega arith))

pub loop-i-preserved : goal.loop-i-preserved
loop-i-preserved g c =
    let closed = is_closed c.args.self.now.mask in
    let m = g.B.Board.meaning c.args.self.now.board in
    let xs = outlets_if_open closed m c.args.cell in
    let i = c.loop-i.i in
    let at = if_open_at closed m c.args.cell i in
    elim c.match-open_outlet.branch [
      | in-Some+else-left-eq0 w ↦
          let k = somes_more xs i w.in-Some.next (at ∙ sym w.in-Some.ensures) in
          omega (arith, w.left-is, w.if-left-eq0.false, c.loop-i.invariant)
      | in_default w ↦
          let k = somes_same xs i (at ∙ sym w.in_default.ensures) in
          omega (arith, w.left-is, c.loop-i.invariant)
    ]

pub returns : goal.returns
returns g c =
    let closed = is_closed c.args.self.now.mask in
    let b = c.args.self.now.board in
    let m = g.B.Board.meaning b in
    let xs = outlets_if_open closed m c.args.cell in
    let few = (g.met.B.Board.bounded b).few_outlets c.args.cell in
    let short : length xs ≤ c.loop-i.i = simp length-map (omega arith) in
    let inv = rw (take_all c.loop-i.i xs short) at c.loop-i.invariant in
    let o = outlet_open closed m (g.met.B.Board.bounded b) c.args.cell c.args.j (sym c.if-is_closed.ensures) in
    sym (o ∙ at_past (somes xs) c.args.j (omega arith))
