use Rattle.std.proofs.lemmas.Result.{IfOk-weaker}
use Rattle.jobs.proofs.Performing.{board_faulty, board_over}
use Rattle.jobs.proofs.perform.perform_rest.Goals as goal

pub returns-in-Some : goal.returns-in-Some
returns-in-Some c =
    let read = c.in_ok-plan.ensures in
    IfOk-weaker c.end_early.result _ _
    (λ t E bytes good. board_faulty c.args.room bytes _ _ _ _ _ _ good _ _ c.in-Some.fault _ _ _ read.reaches read.stops c.in-Some.is E)
    c.end_early.ensures

pub returns-in-None : goal.returns-in-None
returns-in-None c =
    let read = c.in_ok-plan.ensures in
    IfOk-weaker c.perform_plan.result _ _
    (λ t E bytes good. board_over c.args.room bytes _ _ _ _ _ _ good _ _ _ _ _ read.reaches read.stops c.in-None.is E)
    c.perform_plan.ensures
