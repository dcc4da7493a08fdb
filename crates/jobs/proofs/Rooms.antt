-- What is said to a job has room in the output.
use Rattle.std.proofs.Common.{◌≡◌, ℕ, suc, ◌+◌, ◌<◌, ◌≤◌, Bool, true, false, cond, eqb, List, [], ◌∷◌, length, Option, arith, length-append}
use Rattle.records.specs.declared.record.Record.{Record}
use Rattle.job_lines.specs.declared.faults.LineFault.{LineFault}
use Rattle.job_lines.specs.declared.faults.LineFault.TheVariants.{Full}
use Rattle.job_lines.specs.Lines.{lines_of, begins}
use Rattle.job_boards.specs.Plans.{Plan}
use Rattle.job_boards.specs.Reading.{Reaches}
use Rattle.job_boards.specs.Reading as reading
use Rattle.job_answers.specs.Texts.{fault_line}
use Rattle.job_answers.proofs.Lengths.{fault_line_short}
use Rattle.jobs.specs.Calls.{Calls, none_yet, one_more, Ends, all_made, faulty, full}
use Rattle.jobs.specs.Jobs.{Job, empty, bad_first, bad_board, calls}

-- every line has a byte of its own
begins_length : (b : ℕ) (lines : List (List ℕ)) → length (begins b lines) ≤ suc (length lines)
begins_length b [] = omega arith
begins_length b (x ∷ xs) = omega arith

pub lines_few : (text : List ℕ) → length (lines_of text) ≤ length text
lines_few [] = omega arith
lines_few (b ∷ text) = go (eqb b 10) (lines_few text)
  where
    go : (t : Bool) → length (lines_of text) ≤ length text → length (cond t ([] ∷ lines_of text) (begins b (lines_of text))) ≤ suc (length text)
    go true h = omega arith
    go false h = omega (arith, begins_length b (lines_of text))

read_count : {p : Plan} {lines : List (List ℕ)} {k : ℕ} {q : Plan} {left : List (List ℕ)} → Reaches p lines k q left → k + length left ≡ length lines
read_count reading.here = omega arith
read_count (reading.more r g b) = omega (arith, read_count r)

module _ {p : Plan} {room : ℕ} {lines : List (List ℕ)} (enough : 24 ≤ room) where
  call_count : {k : ℕ} {d : List Record} {said : List ℕ} {left : List (List ℕ)} → Calls p room lines k d said left → k + length left ≡ length lines
  call_count none_yet = omega arith
  call_count (one_more c a f) = omega (arith, call_count c)

  calls_fit : {k : ℕ} {d : List Record} {said : List ℕ} {left : List (List ℕ)} → Calls p room lines k d said left → length said + 24 ≤ room
  calls_fit none_yet = omega arith
  calls_fit (one_more {said = said} {answer = answer} c a f) = omega (arith, length-append said answer)

ends_fit : {p : Plan} {room before : ℕ} {lines : List (List ℕ)} {d : List Record} {said : List ℕ} {x : Option LineFault} → 24 ≤ room →
    before + length lines < 99999 → Ends p room before lines d said x → length said ≤ room
ends_fit h l (all_made c) = omega (arith, calls_fit h c)
ends_fit {before = before} h l (faulty {k = k} {said = said} {x = x} c f) =
    omega (arith, calls_fit h c, call_count h c, length-append said (fault_line (before + k + 1) x), fault_line_short (before + k + 1) x (omega (arith, call_count h c)))
ends_fit {before = before} h l (full {k = k} {said = said} c a f) =
    omega (arith, calls_fit h c, length-append said (fault_line (before + k + 1) Full), fault_line_short (before + k + 1) Full (omega (arith, call_count h c)))

pub job_fits : {room : ℕ} {lines : List (List ℕ)} {d : List Record} {said : List ℕ} {x : Option LineFault} → 24 ≤ room →
    length lines ≤ 32768 → Job room lines d said x → length said ≤ room
job_fits h l empty = omega arith
job_fits h l (bad_first {x = x} f) = omega (arith, fault_line_short 1 x (omega arith))
job_fits h l (bad_board {k = k} {x = x} g r f) = omega (arith, fault_line_short (k + 2) x (omega (arith, read_count r)))
job_fits h l (calls g r o e) = ends_fit h (omega (arith, read_count r)) e
