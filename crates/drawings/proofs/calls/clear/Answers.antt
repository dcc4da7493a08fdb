use Rattle.std.proofs.Common.{◌≡◌, true, length, sym, ap, ◌∙◌, arith}
use Rattle.std.proofs.lemmas.Result.{err_from_is_err_and}
use Rattle.std.proofs.lemmas.List.{length-set}
use Rattle.records.specs.declared.record.Record.TheVariants.{Free}
use Rattle.records.specs.Records.{is_barred}
use Rattle.drawings.specs.Nets.{barred_at}
use Rattle.drawings.proofs.Accepted.{clear_first, may_clear, cleared}
use Rattle.drawings.proofs.Counts.{count_below}
use Rattle.drawings.proofs.calls.clear.Goals as goal

pub returns-in_err-check_cell-clause-answer : goal.returns-in_err-check_cell-clause-answer
returns-in_err-check_cell-clause-answer g c =
    let m = g.B.Board.meaning c.args.board.now in
    let p = err_from_is_err_and c.from_residual-in_err-check_cell.result c.from_residual-in_err-check_cell.ensures.1 in
    rw (p.1, p.2) (clear_first m c.args.drawing.now c.args.cell _ c.in_ok-check_size.ensures.1 c.in_err-check_cell.ensures)

pub overflow_cast-result : goal.overflow_cast-result
overflow_cast-result g c =
    let d = c.args.drawing.now in
    let e = c.put.new.drawing in
    omega (
      arith,
      c.count_bars.ensures,
      count_below (barred_at e) (length e),
      ap length c.put.ensures,
      length-set d c.args.cell Free,
      c.in_ok-check_size.ensures.1,
      (g.met.B.Board.bounded c.args.board.now).few_cells,
    )

pub returns-clause-answer : goal.returns-clause-answer
returns-clause-answer g c =
    let m = g.B.Board.meaning c.args.board.now in
    let d = c.args.drawing.now in
    let x = c.args.cell in
    let W = c.in_ok-check_cell.ensures.1 in
    let bar : barred_at d x ≡ true = sym (ap is_barred c.record_at.ensures) ∙ sym c.if-not-is_barred.ensures in
    (may_clear m d x W.0 W.1 bar, cleared m d x c.put.new.drawing c.count_bars.result W.0 bar c.put.ensures c.count_bars.ensures)
