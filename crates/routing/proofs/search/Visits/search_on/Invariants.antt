use Rattle.std.proofs.Common.{◌-◌, length}
use Rattle.routing.specs.Searches.{Waiting, Scanning}
use Rattle.routing.specs.Memories.{notes_of, SameMemory}
use Rattle.routing.proofs.search.Visits.search_on.Given as goal

abbrev pub invariant-search : goal.invariant-search
invariant-search g l = Waiting (g.B.Board.meaning l.board) l.drawing l.start (notes_of l.self) l.at × SameMemory l.initial.self l.self

abbrev pub decreases-search : goal.decreases-search
decreases-search g l = length l.drawing - l.at

abbrev pub invariant-loop-j : goal.invariant-loop-j
invariant-loop-j g l = Scanning (g.B.Board.meaning l.board) l.drawing l.start (notes_of l.self) l.at l.exit l.j × SameMemory l.initial.self l.self
