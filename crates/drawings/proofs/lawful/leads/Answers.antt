use Rattle.std.proofs.Common.{◌≡◌, Some, refl, arith, rules, tests}
use Rattle.std.proofs.lemmas.Bool.Decides.{Decides-like}
use Rattle.std.proofs.lemmas.Iterator.{cases_from_any, YieldsList-from_range}
use Rattle.boards.specs.Meaning.{outlets_of, outlet_at}
use Rattle.drawings.proofs.Outlets.{outlet_mem, mem_outlet}
use Rattle.drawings.proofs.Ranges.{any_below}
use Rattle.drawings.proofs.lawful.leads.Goals as goal

pub returns : goal.returns
returns g c =
    let m = g.B.Board.meaning c.args.board.now in
    let from = c.args.from in
    let to = c.args.to in
    let few = (g.met.B.Board.bounded c.args.board.now).few_outlets from in
    let said = cases_from_any _ _ _ (λ j. outlet_at m from j ≡ Some to) (λ j. outlet_at m from j ≡ Some to → ⊥) c.any.ensures.ran (YieldsList-from_range 0 8 8 refl refl)
    (λ x q k. search (rules, tests)) (λ x q k. search (rules, tests)) in
    Decides-like c.any.result (λ h. outlet_mem (outlets_of m from) h.0 to h.2)
    (λ h. let p = mem_outlet (outlets_of m from) to h in (p.0, omega (arith, p.1, few), p.2))
    (any_below c.any.result 8 (λ j. outlet_at m from j ≡ Some to) said)
