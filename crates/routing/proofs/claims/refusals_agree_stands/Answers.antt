use Rattle.routing.proofs.Agreeing.{refusals_agree}
use Rattle.routing.proofs.claims.refusals_agree_stands.Goals as goal

pub returns : goal.returns
returns c = refusals_agree
