use Rattle.std.proofs.Common.{◌≡◌, ℕ, ◌≤◌, length, get_or}
use Rattle.runs.specs.declared.calls.Call.{Call}
use Rattle.runs.specs.Histories.{History, stands}
use Rattle.runs.specs.Claim.{Upholds}
use Rattle.runs.specs.Told.{Told}
use Rattle.runs.proofs.run.run.Given as goal

-- the calls so far tell an upheld history that ends in the drawing, and the others are as they were
abbrev pub invariant-loop-call : goal.invariant-loop-call
invariant-loop-call g l = record {
  as_many : length l.calls ≡ length l.initial.calls;
  history : History;
  upholds : Upholds (g.B.Board.meaning l.board) history;
  stands : l.drawing ≡ stands (g.B.Board.meaning l.board) history;
  told : Told l.initial.calls l.calls l.call-index history;
  rest : (k : ℕ) (d : Call) → l.call-index ≤ k → get_or l.calls k d ≡ get_or l.initial.calls k d;
}
