-- How many pads and landings a board has.
use Rattle.std.specs.Prelude.{ℕ, Bool, false, List, count_by, slice_index_or}
use Rattle.boards.specs.declared.count.Mark.{Mark}
use Rattle.boards.specs.declared.count.Mark.TheVariants.{Pad, Landing}
use Rattle.boards.specs.Meaning.{Meaning}

-- for each cell, whether it has the mark
abbrev pub marks : Meaning → Mark → List Bool
marks m Pad = m.pads
marks m Landing = m.landings

abbrev pub mark_at : Meaning → Mark → ℕ → Bool
mark_at m mark c = slice_index_or (marks m mark) c false

abbrev pub mark_count : Meaning → Mark → ℕ
mark_count m mark = count_by (λ b. b) (marks m mark)
