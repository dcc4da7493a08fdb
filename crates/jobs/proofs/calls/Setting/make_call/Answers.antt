use Rattle.std.proofs.Common.{length, sym, ap, inr, arith}
use Rattle.std.proofs.lemmas.List.{with_items_is}
use Rattle.jobs.proofs.Calling.{made_call, ready_then}
use Rattle.jobs.proofs.calls.Setting.make_call.Goals as goal

pub returns : goal.returns
returns g c =
    let m = g.B.Board.meaning c.args.self.now.board.now in
    let desk = c.args.desk.now in
    let R = c.requires in
    let e = with_items_is desk.drawing c.step.new.drawing (omega (arith, c.step.auto.drawing, c.as_mut_slice.ensures.len)) in
    let w = with_items_is desk.work c.step.new.work (omega (arith, c.step.auto.work, c.as_mut_slice-2.ensures.len)) in
    let s = with_items_is desk.report c.step.new.report (omega (arith, c.step.auto.report, c.as_mut_slice-3.ensures.len)) in
    record {
      called = inr (
        _,
        rw c.in_ok-cell.ensures.ok_part at c.cell_at.ensures,
        made_call m c.args.kind _ c.step.result _ _ _ _ c.as_mut_slice.ensures.value (sym e)
            (omega (arith, R.work_long, ap length c.as_mut_slice-2.ensures.value))
            (omega (arith, R.report_long, ap length c.as_mut_slice-3.ensures.value)) c.step.ensures.performs,
      );
      ready = ready_then m c.args.kind _ c.step.result desk _ R c.as_mut_slice.ensures.value e
          (omega (arith, ap length w, c.step.auto.work, ap length c.as_mut_slice-2.ensures.value))
          (omega (arith, ap length s, c.step.auto.report, ap length c.as_mut_slice-3.ensures.value)) c.step.ensures.claim;
    }
