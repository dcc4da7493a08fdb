use Rattle.std.proofs.Common.{◌≡◌, ◌*◌, true, false, ◌∷◌, sym, refl, ap, ◌∙◌, subst, rules, arith}
use Rattle.std.proofs.lemmas.Result.{err_from_is_err_and}
use Rattle.records.specs.Records.{is_net, record_at}
use Rattle.drawings.specs.Nets.{net_at, wired, bars}
use Rattle.drawings.specs.Conditions.{HasNoWay}
use Rattle.routing.specs.Conditions.{BarStopped}
use Rattle.routing.specs.Outcomes.{BarredAlso}
use Rattle.routing.proofs.Answering.{first_early, none_holds, bar_early, zeroed, Answers, barred}
use Rattle.routing.proofs.Barring.{bar_free, met_barred, as_free, free_is}
use Rattle.routing.proofs.bar.bar.Goals as goal

pub returns-in_err-check_bar-clause-answer : goal.returns-in_err-check_bar-clause-answer
returns-in_err-check_bar-clause-answer g c =
    let m = g.B.Board.meaning c.args.board.now in
    let d = c.args.drawing.now in
    let p = err_from_is_err_and c.from_residual.result c.from_residual.ensures.1 in
    rw (p.1, p.2) (first_early (BarStopped m d c.args.work.now c.args.report.now c.args.cell) (HasNoWay m (c.args.cell ∷ bars d) (wired d))
    (bar_early m d c.args.work.now c.args.report.now c.args.cell) _ c.in_err-check_bar.ensures)

pub returns-then-not-is_net-clause-answer : goal.returns-then-not-is_net-clause-answer
returns-then-not-is_net-clause-answer g c =
    let m = g.B.Board.meaning c.args.board.now in
    let d = c.args.drawing.now in
    let x = c.args.cell in
    let R = c.in_ok-check_bar.ensures in
    let off : net_at d x ≡ false = sym (ap is_net c.record_at.ensures) ∙ sym c.if-not-is_net.ensures in
    let free = free_is (record_at d x) off R.1.unbarred in
    let B : BarredAlso m d c.put.new.drawing x =
    subst (λ e. BarredAlso m d e x) (sym c.put.ensures) (bar_free m d x R.1.lawful free (omega (arith, R.1.inside, R.1.lawful.one_each))) in (
      none_holds (BarStopped m d c.args.work.now c.args.report.now x) (HasNoWay m (x ∷ bars d) (wired d)) R.0
          (λ no. no (met_barred m d c.put.new.drawing x B)),
      record {
        barred_also = B;
        as_it_was = as_free (record_at d x) m d c.put.new.drawing c.args.work.now c.args.work.now x off R.1.unbarred c.put.ensures refl;
        report_kept = refl;
      },
    )

pub returns-clause-answer : goal.returns-clause-answer
returns-clause-answer g c =
    let m = g.B.Board.meaning c.args.board.now in
    let d = c.args.drawing.now in
    let x = c.args.cell in
    let R = c.in_ok-check_bar.ensures in
    let on : net_at d x ≡ true = sym (ap is_net c.record_at.ensures) ∙ sym c.if-not-is_net.ensures in
    let says : Answers (λ _. 1) c.reroute_within-found.result c.map_err.result = search rules in
    barred m d c.reroute_within-found.new.drawing c.args.work.now _ c.args.report.now c.reroute_within-found.new.report x
    c.reroute_within-found.result c.map_err.result says R.0 on c.reroute_within-found.ensures
    (zeroed m c.args.work.now c.reroute_within-found.new.work c.zero.new.numbers (4 * c.cells.result) (ap (λ n. 4 * n) c.cells.ensures)
    (omega (arith, R.1.work_long, c.cells.ensures)) c.reroute_within-found.auto.work c.zero.ensures)
