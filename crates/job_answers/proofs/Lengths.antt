-- How long the lines are.
use Rattle.std.proofs.Common.{ℕ, ◌<◌, ◌≤◌, length, decimal, arith, lit<, lit≤, length-append}
use Rattle.std.proofs.lemmas.Fmt.{length-decimal-le}
use Rattle.job_lines.specs.declared.faults.LineFault.{LineFault}
use Rattle.job_lines.specs.declared.faults.LineFault.TheVariants.{NoForm, OutOfPlace, Names, Sides, OffBoard, Full}
use Rattle.job_lines.specs.Faults.{fault_number, layer_word}
use Rattle.job_answers.specs.Texts.{fault_line}

number_short : (k : LineFault) → fault_number k < 100
number_short NoForm = lit< tt
number_short OutOfPlace = lit< tt
number_short Names = lit< tt
number_short Sides = lit< tt
number_short OffBoard = lit< tt
number_short Full = lit< tt

word_short : (k : LineFault) → length (layer_word k) ≤ 5
word_short NoForm = lit≤ tt
word_short OutOfPlace = lit≤ tt
word_short Names = lit≤ tt
word_short Sides = lit≤ tt
word_short OffBoard = lit≤ tt
word_short Full = lit≤ tt

-- a fault line of a job with fewer than a hundred thousand lines
pub fault_line_short : (n : ℕ) (k : LineFault) → n < 100000 → length (fault_line n k) ≤ 24
fault_line_short n k few =
    let small = number_short k in
    let line_digits : length (decimal n) ≤ 5 = length-decimal-le 5 n (lit< tt) few (omega arith) in
    let fault_digits : length (decimal (fault_number k)) ≤ 2 = length-decimal-le 2 (fault_number k) (lit< tt) small (omega arith) in
    let word = word_short k in
    simp length-append (omega arith)
