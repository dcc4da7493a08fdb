use Rattle.std.proofs.Common.{arith, rules, tests}
use Rattle.std.proofs.lemmas.Iterator.{cases_from_all, YieldsList-from_range}
use Rattle.drawings.specs.Lawful.{Local}
use Rattle.drawings.proofs.Ranges.{all_below}
use Rattle.drawings.proofs.lawful.is_local.Goals as goal

pub returns : goal.returns
returns g c =
    let m = g.B.Board.meaning c.args.board.now in
    let d = c.args.drawing.now in
    all_below c.all.result m.cells (Local m d)
    (cases_from_all _ _ _ (Local m d) (λ x. Local m d x → ⊥) c.all.ensures.ran (YieldsList-from_range 0 m.cells m.cells (cc) (omega arith))
    (λ x q k. search (rules, tests)) (λ x q k. search (rules, tests)))
