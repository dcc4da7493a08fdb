use Rattle.std.proofs.Common.{◌*◌, ◌∷◌, ap, rules, arith}
use Rattle.std.proofs.lemmas.Result.{err_from_is_err_and}
use Rattle.drawings.specs.Nets.{wired, bars}
use Rattle.drawings.specs.Conditions.{HasNoWay}
use Rattle.routing.specs.Conditions.{PlaceStopped}
use Rattle.routing.proofs.Answering.{first_early, place_early, zeroed, Answers, placed}
use Rattle.routing.proofs.place.place.Goals as goal

pub returns-in_err-check_place-clause-answer : goal.returns-in_err-check_place-clause-answer
returns-in_err-check_place-clause-answer g c =
    let m = g.B.Board.meaning c.args.board.now in
    let d = c.args.drawing.now in
    let p = err_from_is_err_and c.from_residual.result c.from_residual.ensures.1 in
    rw (p.1, p.2) (first_early (PlaceStopped m d c.args.work.now c.args.report.now c.args.cell) (HasNoWay m (bars d) (c.args.cell ∷ wired d))
    (place_early m d c.args.work.now c.args.report.now c.args.cell) _ c.in_err-check_place.ensures)

pub returns-clause-answer : goal.returns-clause-answer
returns-clause-answer g c =
    let m = g.B.Board.meaning c.args.board.now in
    let R = c.in_ok-check_place.ensures in
    let says : Answers (λ z. z) c.route_within-found.result c.map_err.result = search rules in
    placed m c.args.drawing.now c.route_within-found.new.drawing c.args.work.now _ c.args.report.now c.route_within-found.new.report c.args.cell
    c.route_within-found.result c.map_err.result says R.0 c.route_within-found.ensures
    (zeroed m c.args.work.now c.route_within-found.new.work c.zero.new.numbers (4 * c.cells.result) (ap (λ n. 4 * n) c.cells.ensures)
    (omega (arith, R.1.work_long, c.cells.ensures)) c.route_within-found.auto.work c.zero.ensures)
