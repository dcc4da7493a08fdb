use Rattle.std.proofs.Common.{◌≡◌, rules}
use borrow.Author.Tests.{tests}
use Rattle.std.proofs.lemmas.Iterator.{YieldsList-from_slice, first_from_find}
use Rattle.std.proofs.lemmas.Result.{err_from_is_err_and}
use Rattle.job_boards.specs.declared.plan.Pad.{Pad}
use Rattle.jobs.proofs.Pads.{Found, somebody, nobody}
use Rattle.jobs.proofs.orders.find_pad.Goals as goal

pub returns-in_err-pad : goal.returns-in_err-pad
returns-in_err-pad c =
    let n = c.args.name.now in
    let first : Found n c.args.pads.now c.find.result =
    first_from_find _ _ c.find.result (λ (x : Pad). x.name.now ≡ n) (λ x. x.name.now ≡ n → ⊥) c.find.ensures.ran
    (YieldsList-from_slice c.args.pads.now cc) (λ x q k. search (rules, tests)) (λ x q k. search (rules, tests)) in
    let none = c.in_err-pad.ensures.ok_part in
    let fault = rw none at c.in_err-pad.ensures.value in
    let p = err_from_is_err_and c.from_residual.result c.from_residual.ensures.1 in
    rw (p.1, p.2) (cc, nobody _ _ _ first none)

pub returns : goal.returns
returns c =
    let n = c.args.name.now in
    let first : Found n c.args.pads.now c.find.result =
    first_from_find _ _ c.find.result (λ (x : Pad). x.name.now ≡ n) (λ x. x.name.now ≡ n → ⊥) c.find.ensures.ran
    (YieldsList-from_slice c.args.pads.now cc) (λ x q k. search (rules, tests)) (λ x q k. search (rules, tests)) in
    rw c.place.ensures (somebody _ _ _ c.in_ok-pad.pad first c.in_ok-pad.ensures.ok_part)
