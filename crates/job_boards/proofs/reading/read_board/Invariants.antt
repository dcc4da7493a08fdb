use Rattle.std.proofs.Common.{length}
use Rattle.job_boards.specs.Reading.{plan_of}
use Rattle.job_boards.proofs.Readings.{ReadTo}
use Rattle.job_boards.proofs.reading.read_board.Given as goal

abbrev pub invariant-loop-bytes : goal.invariant-loop-bytes
invariant-loop-bytes l = ReadTo (plan_of l.initial.plan) l.initial.rest l.lines (plan_of l.plan) l.rest

abbrev pub decreases-loop-bytes : goal.decreases-loop-bytes
decreases-loop-bytes l = length l.rest
