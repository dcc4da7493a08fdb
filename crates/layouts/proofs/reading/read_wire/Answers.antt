use Rattle.std.proofs.Common.{Some, length, rules, arith}
use Rattle.std.proofs.lemmas.Result.{err_from_is_err_and}
use Rattle.drawings.specs.Nets.{net}
use Rattle.drawings.proofs.Follow.{onward_short}
use Rattle.layouts.proofs.Readers.{wire_short, read_first, read_allowed}
use Rattle.layouts.proofs.reading.read_wire.Goals as goal

pub returns-in_err-check_wired_pad-clause-answer :
    goal.returns-in_err-check_wired_pad-clause-answer
returns-in_err-check_wired_pad-clause-answer g c =
    let m = g.B.Board.meaning c.args.board.now in
    let p = err_from_is_err_and c.from_residual-in_err-check_wired_pad.result c.from_residual-in_err-check_wired_pad.ensures.1 in
    rw (p.1, p.2) (read_first m c.args.drawing.now c.args.points.now c.args.pad c.in_ok-check_size.ensures.1 (omega arith) _ c.in_err-check_wired_pad.ensures)

pub list_points-count-requires : goal.list_points-count-requires
list_points-count-requires g c = omega (arith, onward_short c.args.drawing.now (Some c.args.pad) (length c.args.drawing.now), c.in_ok-check_size.ensures.1)

pub overflow_cast-result : goal.overflow_cast-result
overflow_cast-result g c =
    omega (
      arith,
      wire_short c.net_layer-layer.result (g.B.PlacedBoard.places c.args.board.now) (net c.args.drawing.now c.args.pad),
      onward_short c.args.drawing.now (Some c.args.pad) (length c.args.drawing.now),
      c.list_points-count.ensures.count,
      c.in_ok-check_size.ensures.1,
      (g.met.B.Board.bounded c.args.board.now).few_cells,
    )

pub returns-clause-answer : goal.returns-clause-answer
returns-clause-answer g c = (
  read_allowed (g.B.Board.meaning c.args.board.now) c.args.drawing.now c.args.points.now c.args.pad c.in_ok-check_size.ensures.1 (omega arith) c.in_ok-check_wired_pad.ensures.0,
  search rules,
)
