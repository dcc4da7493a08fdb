use Rattle.std.proofs.Common.{length, refl, ap, arith}
use Rattle.drawings.proofs.Follow.{net_run}
use Rattle.drawings.proofs.nets.list_net.Goals as goal

pub returns-then-count-into : goal.returns-then-count-into
returns-then-count-into c = (λ xs r h. omega (arith, c.in_ok-count.ensures.1, ap length (net_run r), c.if-count-into.true), refl)
