use Rattle.std.proofs.Common.{rules, refl, arith}
use Rattle.job_boards.specs.Plans.{also_landing}
use Rattle.job_boards.proofs.Entries.{same_plan}
use Rattle.job_boards.proofs.Marks.{marked, or_landing}
use Rattle.job_boards.proofs.entering.enter_land.Goals as goal

pub returns : goal.returns
returns c = (
  (search rules, (λ x. x, (λ x. x, (λ off. off (c.if-not-has.ensures.0 refl), tt)))),
  same_plan _ _ _
      (marked also_landing c.args.plan.now.map.items _ _ c.index_mut.result.now _ (omega (arith, c.index_of-index.ensures.within, c.args.plan.now.full, c.args.plan.now.map.ok.0)) c.index_of-index.ensures.value c.index_mut.ensures.value (or_landing _))
      refl refl,
)
