use Rattle.std.proofs.Common.{sym, refl, arith}
use Rattle.std.proofs.lemmas.List.{with_items_is}
use Rattle.runs.proofs.Telling.{performs_same}
use Rattle.runs.proofs.run.perform.Goals as goal

pub returns : goal.returns
returns g c = record {
  kind_kept = refl;
  cell_kept = refl;
  answer = c.step-answer.result;
  answered = refl;
  performs = performs_same _ _ _ _ _ _
      c.deref_mut.ensures.value
      (sym (with_items_is c.args.call.now.work _ (omega (arith, c.step-answer.auto.work, c.deref_mut.ensures.len))))
      c.deref_mut-2.ensures.value
      (sym (with_items_is c.args.call.now.report _ (omega (arith, c.step-answer.auto.report, c.deref_mut-2.ensures.len))))
      c.step-answer.ensures.performs;
}
