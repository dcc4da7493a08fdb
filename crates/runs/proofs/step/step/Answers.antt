use Rattle.std.proofs.Common.{rules}
use Rattle.runs.proofs.Claiming.{claims}
use Rattle.runs.proofs.step.step.Goals as goal

pub returns-in-Place-clause-claim : goal.returns-in-Place-clause-claim
returns-in-Place-clause-claim g c = λ h u e. claims _ h u _ _ _ _ _ _ _ e _ _ (search rules)

pub returns-in-Lift-clause-claim : goal.returns-in-Lift-clause-claim
returns-in-Lift-clause-claim g c = λ h u e. claims _ h u _ _ _ _ _ _ _ e _ _ (search rules)

pub returns-in-Bar-clause-claim : goal.returns-in-Bar-clause-claim
returns-in-Bar-clause-claim g c = λ h u e. claims _ h u _ _ _ _ _ _ _ e _ _ (search rules)

pub returns-in-Clear-clause-claim : goal.returns-in-Clear-clause-claim
returns-in-Clear-clause-claim g c = λ h u e. claims _ h u _ _ _ _ _ _ _ e _ _ (search rules)
