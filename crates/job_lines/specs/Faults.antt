-- The faults of a line: the number of each, and the layer that finds it.
use Rattle.std.specs.Prelude.{ℕ, List, codes}
use Rattle.job_lines.specs.declared.faults.LineFault.{LineFault}
use Rattle.job_lines.specs.declared.faults.LineFault.TheVariants.{NoForm, OutOfPlace, Names, Sides, OffBoard, Full}

abbrev pub fault_number : LineFault → ℕ
fault_number NoForm = 17
fault_number OutOfPlace = 19
fault_number Names = 18
fault_number Sides = 13
fault_number OffBoard = 16
fault_number Full = 20

-- the text of the job, or the board that it describes
abbrev pub layer_word : LineFault → List ℕ
layer_word NoForm = codes "text"
layer_word OutOfPlace = codes "text"
layer_word Names = codes "text"
layer_word Sides = codes "board"
layer_word OffBoard = codes "board"
layer_word Full = codes "text"
