use Rattle.std.proofs.Common.{◌≡◌, ℕ, ◌+◌, List, length, sym, ap, ◌∙◌, subst, arith}
use Rattle.records.specs.Records.{is_first}
use Rattle.rewiring.proofs.Marking.{MarkedBelow, mark_first, mark_other, all_marked}
use Rattle.rewiring.proofs.sweep.mark_nets.Goals as goal
use Rattle.rewiring.proofs.sweep.mark_nets.Goals.{then-is_first, else-is_first}

pub loop-cell-preserved : goal.loop-cell-preserved
loop-cell-preserved g c =
    let m = g.B.Board.meaning c.args.board.now in
    let d = c.args.drawing.now in
    let i = c.loop-cell.cell in
    elim c.if-is_first.branch [
      | then-is_first w ↦
          subst (λ (xs : List ℕ). MarkedBelow d xs (i + 1)) (sym (w.marks-is ∙ w.mark_net.ensures))
          (mark_first m d c.requires.local c.loop-cell.marks i (sym (ap is_first c.record_at.ensures) ∙ sym w.if-is_first.ensures) c.loop-cell.invariant)
      | else-is_first w ↦
          subst (λ (xs : List ℕ). MarkedBelow d xs (i + 1)) (sym w.marks-is)
          (mark_other m d c.requires.local c.loop-cell.marks i (sym (ap is_first c.record_at.ensures) ∙ sym w.if-is_first.ensures) c.loop-cell.invariant)
    ]

pub returns : goal.returns
returns g c =
    let d = c.args.drawing.now in
    let e : c.loop-cell.cell ≡ length d = omega arith in
    all_marked (g.B.Board.meaning c.args.board.now) d c.requires.local c.loop-cell.marks
    (subst (λ (n : ℕ). MarkedBelow d c.loop-cell.marks n) e c.loop-cell.invariant)
