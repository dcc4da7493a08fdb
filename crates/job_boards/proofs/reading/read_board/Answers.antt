use Rattle.job_boards.specs.Reading.{plan_of}
use Rattle.job_boards.proofs.Readings.{read_none, read_more, Ended, no_line, at_call, at_fault}
use Rattle.job_boards.proofs.Sounding.{sound}
use Rattle.job_boards.proofs.reading.read_board.Goals as goal
use Rattle.job_boards.proofs.reading.read_board.Goals.{in_default, in-Some+in-Err-Call, in-Some+in-Err-Fault}

pub loop-bytes-init : goal.loop-bytes-init
loop-bytes-init c = read_none _ _

pub loop-bytes-preserved : goal.loop-bytes-preserved
loop-bytes-preserved c =
    read_more _ _ _ _ (plan_of c.enter_line.new.plan) _ _ c.in-Some.more.now _ c.in-Some.ensures c.in-Ok.ensures c.loop-bytes.invariant

pub returns : goal.returns
returns c =
    let m = c.match-next_line in
    let end : Ended _ _ _ _ _ c.loop-bytes.invariant (plan_of m.plan) m.fault = elim m.branch [
      | in_default w ↦ rw (w.plan-is, w.fault-is) (no_line _ _ _ _ _ c.loop-bytes.invariant w.in_default.ensures)
      | in-Some+in-Err-Call w ↦
          rw (w.plan-is, w.fault-is) (at_call _ _ _ _ _ c.loop-bytes.invariant (plan_of w.enter_line.new.plan) _ _ w.in-Some.ensures (rw w.in-Err-Call.field-0-is at w.in-Err-Call.ensures))
      | in-Some+in-Err-Fault w ↦
          rw (w.plan-is, w.fault-is, w.in-Err-Fault.field-0-is) (at_fault _ _ _ _ _ c.loop-bytes.invariant (plan_of w.enter_line.new.plan) _ _ w.in-Some.ensures w.in-Err-Fault.fault (rw w.in-Err-Fault.field-0-is at w.in-Err-Fault.ensures))
    ] in
    record { reaches = rw c.in_ok-plan.ensures at end.0.0; stops = end.1; sound = sound c.match-next_line.plan; within = end.0.1 }
