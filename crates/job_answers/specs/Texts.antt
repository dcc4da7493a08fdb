-- The lines that a job writes: words with one space between each and the next, and LF, byte 10.
use Rattle.std.specs.Prelude.{ℕ, List, [], ◌∷◌, ◌++◌, Ok, Err, codes, decimal, Result}
use Rattle.records.specs.declared.refusal.Refusal.{Refusal}
use Rattle.records.specs.declared.refusal.Refusal.TheVariants.{WrongDrawing, ShortWork, ShortReport, NotLawful, NoSuchCell, NotPad, WiredAlready, NotWired, BarredAlready, NotBarred, WiredPad, NoWay}
use Rattle.records.specs.Numbers.{number_of}
use Rattle.job_lines.specs.declared.faults.LineFault.{LineFault}
use Rattle.job_lines.specs.Faults.{fault_number, layer_word}
use Rattle.job_lines.specs.Grammar.{spaced}

abbrev pub line_of : List (List ℕ) → List ℕ
line_of words = spaced words ++ 10 ∷ []

-- the two counts of a refusal for want of a way: the pads behind the fence, and the cells in it
abbrev pub counts : Refusal → List (List ℕ)
counts WrongDrawing = []
counts ShortWork = []
counts ShortReport = []
counts NotLawful = []
counts NoSuchCell = []
counts NotPad = []
counts WiredAlready = []
counts NotWired = []
counts BarredAlready = []
counts NotBarred = []
counts WiredPad = []
counts (NoWay pads cells) = decimal pads ∷ decimal cells ∷ []

-- the answer to place, lift, bar and clear, and to a show that is refused
abbrev pub answer_line : Result ℕ Refusal → List ℕ
answer_line (Ok n) = line_of (codes "ok" ∷ decimal n ∷ [])
answer_line (Err e) = line_of (codes "no" ∷ decimal (number_of e) ∷ counts e)

-- the answer to show: the pad's name, and the letters of its net's steps
abbrev pub show_line : (name letters : List ℕ) → List ℕ
show_line name letters = line_of (name ∷ letters ∷ [])

-- the line n is faulty
abbrev pub fault_line : ℕ → LineFault → List ℕ
fault_line n k = line_of (codes "fault" ∷ decimal n ∷ layer_word k ∷ decimal (fault_number k) ∷ [])
