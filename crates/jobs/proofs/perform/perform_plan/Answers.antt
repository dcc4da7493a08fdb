use Rattle.std.proofs.Common.{map, ap}
use Rattle.std.proofs.lemmas.Result.{IfOk-weaker}
use Rattle.boards.specs.declared.maps.MapKind.TheVariants.{FieldMap, EscapeMap}
use Rattle.job_boards.specs.Reading.{named, plan_of}
use Rattle.job_boards.proofs.Sounding.{sound}
use Rattle.jobs.proofs.Sites.{made_of}
use Rattle.jobs.proofs.perform.perform_plan.Goals as goal

pub returns-in-FieldMap : goal.returns-in-FieldMap
returns-in-FieldMap c =
    let p = plan_of c.args.plan in
    let d = made_of p (sound c.args.plan) FieldMap c.in-FieldMap.is _ _ _ _ c.new-board.ensures.made c.deref.ensures.value (ap (map named) c.deref-in-FieldMap.ensures.value) in
    IfOk-weaker c.perform_calls.result _ _ (λ t h. h p d) c.perform_calls.ensures

pub returns : goal.returns
returns c =
    let p = plan_of c.args.plan in
    let d = made_of p (sound c.args.plan) EscapeMap c.in-EscapeMap.is _ _ _ _ c.new-board-in-EscapeMap.ensures.made c.deref-in-EscapeMap.ensures.value (ap (map named) c.deref-in-EscapeMap-2.ensures.value) in
    IfOk-weaker c.perform_calls-in-EscapeMap.result _ _ (λ t h. h p d) c.perform_calls-in-EscapeMap.ensures
