use Rattle.std.proofs.Common.{◌≡◌, ℕ, ◌+◌, ◌≤◌, length, vec_items}
use Rattle.job_lines.specs.Lines.{lines_of}
use Rattle.job_boards.specs.Plans.{Plan}
use Rattle.jobs.specs.Calls.{Calls}
use Rattle.jobs.specs.Steps.{Site, Ready}
use Rattle.jobs.proofs.calls.Setting.make_calls.Given as goal

-- k lines were answered, the memory is ready, and what was said so far is what the rules say
abbrev pub invariant-loop-bytes : goal.invariant-loop-bytes
invariant-loop-bytes g l =
    (k : ℕ) × (l.line ≡ l.before + k) × (k + length l.rest ≤ length l.text)
    × Ready (g.B.Board.meaning l.self.board.now) l.desk
    × ((p : Plan) → Site p (g.B.Board.meaning l.self.board.now) (g.B.PlacedBoard.places l.self.board.now) l.self.pads.now →
    Calls p l.self.room (lines_of l.text) k (vec_items l.desk.drawing) (vec_items l.said) (lines_of l.rest))

abbrev pub decreases-loop-bytes : goal.decreases-loop-bytes
decreases-loop-bytes g l = length l.rest
