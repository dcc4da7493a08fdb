use Rattle.std.proofs.Common.{refl}
use Rattle.boards.proofs.Masks.{nothing_closed}
use Rattle.boards.proofs.keep_out.KeepOut.new.Goals as goal

pub returns : goal.returns
returns g c = record { over = refl; nothing = nothing_closed }
