-- Jobs: what is said to the lines of a text, and the drawing that stands at the end.
use Rattle.std.specs.Prelude.{◌≡◌, ℕ, ◌+◌, ◌<◌, ◌≤◌, ◌⊎◌, List, [], ◌∷◌, length, Some, None, Option}
use Rattle.boards.specs.declared.maps.MapKind.{MapKind}
use Rattle.records.specs.declared.record.Record.{Record}
use Rattle.drawings.specs.Changes.{written}
use Rattle.job_lines.specs.declared.faults.LineFault.{LineFault}
use Rattle.job_lines.specs.Faults.{fault_number}
use Rattle.job_lines.specs.Lines.{lines_of}
use Rattle.job_boards.specs.Plans.{Plan, bare}
use Rattle.job_boards.specs.Faults.{first_line, board_lines, Good, Faulty}
use Rattle.job_boards.specs.Reading.{header_form, Reaches, Over}
use Rattle.job_answers.specs.Texts.{fault_line}
use Rattle.jobs.specs.declared.job.JobFault.{JobFault}
use Rattle.jobs.specs.declared.job.JobFault.TheVariants.{Line, Sizes, Memory}
use Rattle.jobs.specs.Calls.{Ends}

-- the lines of a job, the drawing at its end, what is said, and the fault that ended it, with so much room for output
pub data Job (room : ℕ) : List (List ℕ) → List Record → List ℕ → Option LineFault → Type 0 where
  -- no line: nothing is said
  empty : Job room [] [] [] None
  -- the first line is faulty
  bad_first : {bytes : List ℕ} {left : List (List ℕ)} {x : LineFault} → Faulty first_line bytes x →
      Job room (bytes ∷ left) [] (fault_line 1 x) (Some x)
  -- k lines about the board are good, and then one is faulty
  bad_board : {bytes line : List ℕ} {left rest : List (List ℕ)} {kind : MapKind} {R C k : ℕ} {p : Plan} {x : LineFault} →
      Good first_line bytes (header_form kind R C) → Reaches (bare kind R C) left k p (line ∷ rest) → Faulty (board_lines p) line x →
      Job room (bytes ∷ left) [] (fault_line (k + 2) x) (Some x)
  -- k lines describe the board, and then come the calls
  calls : {bytes said : List ℕ} {left rest : List (List ℕ)} {kind : MapKind} {R C k : ℕ} {p : Plan} {d : List Record} {x : Option LineFault} →
      Good first_line bytes (header_form kind R C) → Reaches (bare kind R C) left k p rest → Over rest → Ends p room (k + 1) rest d said x →
      Job room (bytes ∷ left) d said x

-- the number of a fault that ends a job
abbrev pub job_fault_number : JobFault → ℕ
job_fault_number (Line x) = fault_number x
job_fault_number Sizes = 21
job_fault_number Memory = 33

-- 0 for none
abbrev pub end_number : Option JobFault → ℕ
end_number None = 0
end_number (Some x) = job_fault_number x

-- the fault of a line, as one of the job
abbrev pub line_fault : Option LineFault → Option JobFault
line_fault None = None
line_fault (Some x) = Some (Line x)

-- 21: the text has more than 32,768 bytes, or the output memory fewer than 24
abbrev pub TooLarge : (text output : List ℕ) → Type 0
TooLarge text output = (32768 < length text) ⊎ (length output < 24)

-- a run of a job on output memory, which holds output' then: the bytes written, and the fault. What is said stands at the front of
-- the output, and the rest is as before. Want of memory, 33, leaves all as before, and comes only where 21 does not.
pub data JobRun (text output output' : List ℕ) : (bytes : ℕ) → Option JobFault → Type 0 where
  too_large : TooLarge text output → output' ≡ output → JobRun text output output' 0 (Some Sizes)
  no_memory : (TooLarge text output → ⊥) → output' ≡ output → JobRun text output output' 0 (Some Memory)
  run : {d : List Record} {said : List ℕ} {x : Option LineFault} → (TooLarge text output → ⊥) →
      Job (length output) (lines_of text) d said x → length said ≤ length output → output' ≡ written said output →
      JobRun text output output' (length said) (line_fault x)
