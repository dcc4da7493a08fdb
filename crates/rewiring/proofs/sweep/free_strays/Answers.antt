use Rattle.std.proofs.Common.{sym, ◌∙◌}
use Rattle.std.proofs.lemmas.Bool.{both_ways}
use Rattle.rewiring.proofs.Sweeping.{stray_freed, stray_passed}
use Rattle.rewiring.proofs.sweep.free_strays.Goals as goal
use Rattle.rewiring.proofs.sweep.free_strays.Goals.{then-is_net+then-not-is_marked, else-is_net, else-is_net-via-then-is_net+else-not-is_marked, else-is_net-via-else-is_net}

pub loop-cell-preserved : goal.loop-cell-preserved
loop-cell-preserved c =
    let d = c.args.drawing.now in
    let marks = c.args.marks.now in
    let e = c.loop-cell.drawing in
    let i = c.loop-cell.cell in
    let F = c.loop-cell.invariant in
    elim c.if-is_net.branch [
      | then-is_net+then-not-is_marked w ↦
          rw w.drawing-is (stray_freed marks d e i F (sym c.is_net.ensures ∙ w.if-is_net.true) (sym w.is_marked.ensures ∙ w.if-not-is_marked.true))
      | else-is_net w ↦ elim w.else-is_net.branch [
        | else-is_net-via-then-is_net+else-not-is_marked v ↦
            rw (w.drawing-is, v.drawing-is) (stray_passed marks d e i F (λ _. sym v.is_marked.ensures ∙ v.if-not-is_marked.false))
        | else-is_net-via-else-is_net v ↦
            rw (w.drawing-is, v.drawing-is) (stray_passed marks d e i F (λ n. absurd (both_ways _ (sym c.is_net.ensures ∙ v.if-is_net.false) n)))
      ]
    ]
