use Rattle.std.proofs.Common.{ℕ, List, ◌∷◌, sym, ◌∙◌, subst}
use Rattle.linkages.specs.Lists.{Same}
use Rattle.drawings.specs.Nets.{wired, used}
use Rattle.rewiring.proofs.rewire.rewire.Goals as goal

pub sweep-requires-clause-local : goal.sweep-requires-clause-local
sweep-requires-clause-local g c =
    let t = c.requires.trail in
    (c.follow_back.ensures (g.B.Board.meaning c.args.board.now) t.0 t.1.0 c.requires.lawful t.1.1).local

pub returns : goal.returns
returns g c p z t =
    let m = g.B.Board.meaning c.args.board.now in
    let d = c.args.drawing.now in
    let O = c.follow_back.ensures m p z c.requires.lawful t in
    let S = c.sweep.ensures in
    record {
      lawful = S.lawful;
      one_more = subst (λ (xs : List ℕ). Same xs (p ∷ wired d)) (sym S.same_wired) O.one_more;
      same_bars = S.same_bars ∙ O.same_bars;
      landing_used = subst (λ (xs : List ℕ). Same xs (z ∷ used m d)) (sym S.same_used) O.landing_used;
    }
