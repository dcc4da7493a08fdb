use Rattle.std.proofs.Common.{ℕ, ◌≤◌, Bool}
use Rattle.routing.specs.Showing.{Tells, WritesPassing}
use Rattle.routing.proofs.fence.write_passing.Given as goal

abbrev pub invariant-loop-cell : goal.invariant-loop-cell
invariant-loop-cell g l = record {
  few : l.count ≤ l.cell;
  so_far : (p : ℕ → Bool) → Tells (goal.F-post g l.passes) p l.end → WritesPassing p l.cell l.initial.into l.into l.count;
}
