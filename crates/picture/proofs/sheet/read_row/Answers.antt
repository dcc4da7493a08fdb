use Rattle.std.proofs.Common.{refl, take_all, rules}
use Rattle.picture.proofs.sheet.read_row.Goals as goal

pub returns-clause-ok : goal.returns-clause-ok
returns-clause-ok c =
    let all = take_all c.loop-byte.byte-index c.args.row.now c.loop-byte-test.false in
    ((λ _. search rules, λ _. refl), λ _. rw all at c.loop-byte.invariant)
