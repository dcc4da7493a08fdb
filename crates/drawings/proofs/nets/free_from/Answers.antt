use Rattle.std.proofs.Common.{◌≡◌, ◌∷◌, length, sym, ap, ◌∙◌, arith}
use Rattle.records.specs.Records.{after_of}
use Rattle.drawings.specs.Nets.{net, last_of, Runs}
use Rattle.drawings.specs.Changes.{freed}
use Rattle.drawings.proofs.Changed.{free_step, run_last}
use Rattle.drawings.proofs.nets.free_from.Goals as goal

step : (c : goal.After-drawing-1) → Runs c.put.new.drawing c.in-Some.next (net c.put.new.drawing c.in-Some.next) ×
    (net c.loop-next.drawing c.loop-next.cell ≡ c.loop-next.cell ∷ net c.put.new.drawing c.in-Some.next)
step c = free_step c.loop-next.drawing c.put.new.drawing c.loop-next.cell c.in-Some.next c.put.ensures c.loop-next.invariant.0
    (sym (ap after_of c.record_at.ensures) ∙ sym c.in-Some.ensures)

pub loop-next-smaller : goal.loop-next-smaller
loop-next-smaller c = omega (arith, ap length (step c).1)

pub loop-next-preserved : goal.loop-next-preserved
loop-next-preserved c =
    let d = c.loop-next.drawing in
    let e = c.put.new.drawing in
    let x = c.loop-next.cell in
    let t = c.in-Some.next in
    let h = step c in (
      h.0,
      run_last t x h.0 ∙ sym (ap (last_of x) h.1) ∙ c.loop-next.invariant.1,
      ap (freed (net e t)) c.put.ensures ∙ sym (ap (λ zs. freed zs d) h.1) ∙ c.loop-next.invariant.2,
    )
