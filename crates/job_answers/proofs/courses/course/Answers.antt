use Rattle.std.proofs.Common.{rules}
use Rattle.std.proofs.lemmas.Slice.Zip.{Zip-more, either_empty_from_Zip}
use Rattle.job_answers.proofs.Steps.{none_passed, more_passed, stops, all_passed}
use Rattle.job_answers.proofs.courses.course.Goals as goal

pub loop-from-init : goal.loop-from-init
loop-from-init g c = none_passed _ _ _ _ _ c.in-Some.field-0-0.now (search rules) (search rules) (search rules)

pub returns-in_default-step_from : goal.returns-in_default-step_from
returns-in_default-step_from g c =
    let turn = Zip-more c.loop-from.from-iterator c.next.new.self _ (c.in-Some-2.from, c.in-Some-2.to) c.in-Some-2.is c.next.ensures.steps in
    stops _ _ _ _ _ _ _ _ _ turn.0 turn.1 c.in_default-step_from.ensures c.loop-from.invariant

pub loop-from-preserved : goal.loop-from-preserved
loop-from-preserved g c =
    let turn = Zip-more c.loop-from.from-iterator c.next.new.self _ (c.in-Some-2.from, c.in-Some-2.to) c.in-Some-2.is c.next.ensures.steps in
    more_passed _ _ _ _ _ _ _ _ _ _ _ turn.0 turn.1 (search rules) c.in-Some-step_from.ensures c.loop-from.invariant

pub returns : goal.returns
returns g c = all_passed _ _ _ _ _ (either_empty_from_Zip c.loop-from.from-iterator c.next.new.self _ c.in-None.is c.next.ensures.steps) c.loop-from.invariant
