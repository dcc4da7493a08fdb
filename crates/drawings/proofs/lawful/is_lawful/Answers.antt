use Rattle.std.proofs.Common.{◌≡◌, ℕ, ◌<◌, length, sym, ◌∙◌, arith}
use Rattle.std.proofs.lemmas.Bool.{eqb-true, eq-eqb}
use Rattle.drawings.specs.Lawful.{Local, Lawful}
use Rattle.drawings.proofs.Counts.{counts_reach, reach_counts}
use Rattle.drawings.proofs.Linking.{linked}
use Rattle.drawings.proofs.Locals.{local_everywhere}
use Rattle.drawings.proofs.lawful.is_lawful.Goals as goal
use Rattle.drawings.proofs.lawful.is_lawful.Goals.{then-drawing-cells, else-drawing-cells}

pub returns-then-is_local : goal.returns-then-is_local
returns-then-is_local g c =
    let m = g.B.Board.meaning c.args.board.now in
    let d = c.args.drawing.now in
    let n = c.net_cells.result in
    let k = c.reached_cells.result in
    let both : (length d ≡ m.cells) × ((x : ℕ) → x < m.cells → Local m d x) = elim c.if-drawing-cells.branch [
      | then-drawing-cells w ↦ (omega arith, w.is_local.ensures.0 (sym w.value-is ∙ c.if-is_local.true))
      | else-drawing-cells w ↦ absurd (w.if-drawing-cells.false (eqb-true _ _ (sym w.value-is ∙ c.if-is_local.true)))
    ] in
    let L = local_everywhere m d (λ x h. both.1 x (omega (arith, both.0))) in
    let W : n ≡ k → Lawful m d = λ e. record { one_each = both.0; local = L; reached = counts_reach m d L (sym c.net_cells.ensures ∙ e ∙ c.reached_cells.ensures) } in
    record {
      decides = (λ e. W (omega (arith, eqb-true)), λ w. eq-eqb n k (c.net_cells.ensures ∙ reach_counts m d L w.reached ∙ sym c.reached_cells.ensures));
      links = λ e. linked m d (W (omega (arith, eqb-true)));
    }
