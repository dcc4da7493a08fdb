-- The numbers of the refusals, and what is said of each.
use Rattle.std.specs.Prelude.{ℕ, List, ◌++◌, codes, decimal}
use Rattle.records.specs.declared.refusal.Refusal.{Refusal}
use Rattle.records.specs.declared.refusal.Refusal.TheVariants.{WrongDrawing, ShortWork, ShortReport, NotLawful, NoSuchCell, NotPad, WiredAlready, NotWired, BarredAlready, NotBarred, WiredPad, NoWay}

abbrev pub number_of : Refusal → ℕ
number_of WrongDrawing = 1
number_of ShortWork = 2
number_of ShortReport = 3
number_of NotLawful = 4
number_of NoSuchCell = 5
number_of NotPad = 6
number_of WiredAlready = 7
number_of NotWired = 8
number_of BarredAlready = 9
number_of NotBarred = 10
number_of WiredPad = 11
number_of (NoWay pads cells) = 12

abbrev pub sentence_of : Refusal → List ℕ
sentence_of WrongDrawing = codes "the drawing memory is not exactly one record for each cell"
sentence_of ShortWork = codes "work memory has fewer than four numbers for each cell"
sentence_of ShortReport = codes "report memory has fewer than two numbers for each cell"
sentence_of NotLawful = codes "the drawing is not lawful"
sentence_of NoSuchCell = codes "the number is no cell"
sentence_of NotPad = codes "the cell is no pad"
sentence_of WiredAlready = codes "the pad is wired already"
sentence_of NotWired = codes "the pad is not wired"
sentence_of BarredAlready = codes "the cell is barred already"
sentence_of NotBarred = codes "the cell is not barred"
sentence_of WiredPad = codes "the cell is a wired pad"
sentence_of (NoWay pads cells) = codes "there is no way: pads behind the fence " ++ (decimal pads ++ (codes ", cells in it " ++ decimal cells))
