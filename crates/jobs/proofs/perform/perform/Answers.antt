use Rattle.std.proofs.lemmas.Result.{IfOk-weaker}
use Rattle.jobs.proofs.Performing.{no_lines, first_faulty}
use Rattle.jobs.proofs.perform.perform.Goals as goal

pub returns-in_default : goal.returns-in_default
returns-in_default c = no_lines c.args.room _ _ _ c.in_default.ensures c.new.ensures.items c.new-in_default.ensures.items

pub returns-in-Err : goal.returns-in-Err
returns-in-Err c =
    IfOk-weaker c.end_early.result _ _
    (λ t E. first_faulty c.args.room _ _ _ c.in-Err.fault _ _ _ c.in-Some.ensures.first c.in-Err.ensures E) c.end_early.ensures
