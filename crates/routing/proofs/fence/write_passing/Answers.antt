use Rattle.std.proofs.Common.{true, false, sym, arith}
use Rattle.routing.proofs.Listing.{passing_more, passing_same}
use Rattle.routing.proofs.fence.write_passing.Goals as goal
use Rattle.routing.proofs.fence.write_passing.Goals.{then-passes, else-passes}

pub loop-cell-preserved : goal.loop-cell-preserved
loop-cell-preserved g c =
    let x = c.loop-cell.cell in
    let inv = c.loop-cell.invariant in
    elim c.if-passes.branch [
      | then-passes w ↦ record {
        few = omega arith;
        so_far = λ p tells.
            rw (w.into-is, w.count-is) (passing_more p x c.args.into.now c.loop-cell.into c.loop-cell.count (inv.so_far p tells)
            (sym (tells x true (omega arith) w.if-passes.ensures)) (omega arith));
      }
      | else-passes w ↦ record {
        few = omega arith;
        so_far = λ p tells.
            rw (w.into-is, w.count-is) (passing_same p x c.args.into.now c.loop-cell.into c.loop-cell.count (inv.so_far p tells)
            (sym (tells x false (omega arith) w.if-passes.ensures)));
      }
    ]
