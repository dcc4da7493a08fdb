-- The numbers of the refusals of whoever supplies a map or a cell to be closed, and what is said of each.
use Rattle.std.specs.Prelude.{ℕ, List, codes}
use Rattle.boards.specs.declared.refusal.BoardRefusal.{BoardRefusal}
use Rattle.boards.specs.declared.refusal.BoardRefusal.TheVariants.{Sides, Length, Byte, OffBoard}

abbrev pub number_of : BoardRefusal → ℕ
number_of Sides = 13
number_of Length = 14
number_of Byte = 15
number_of OffBoard = 16

abbrev pub sentence_of : BoardRefusal → List ℕ
sentence_of Sides = codes "rows and columns are 1 to 64 each, and at most 2048 points together"
sentence_of Length = codes "the map has not one byte for each point"
sentence_of Byte = codes "the map has a byte that means nothing on such a board"
sentence_of OffBoard = codes "a point or a cell is off the board"
