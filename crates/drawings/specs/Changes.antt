-- Drawings with a net taken up, and with one laid.
use Rattle.std.specs.Prelude.{◌≡◌, ℕ, ◌≤◌, true, List, [], ◌∷◌, ◌++◌, length, drop, Some, None, Option, slice_set}
use Rattle.boards.specs.Meaning.{Meaning}
use Rattle.records.specs.declared.record.Record.{Record}
use Rattle.records.specs.declared.record.Record.TheVariants.{Free, Net}
use Rattle.drawings.specs.Nets.{first_at, net, last_of, Runs}
use Rattle.drawings.specs.Lawful.{Lawful}

-- the drawing with each cell of a list free
abbrev pub freed : List ℕ → List Record → List Record
freed [] d = d
freed (c ∷ cs) d = freed cs (slice_set d c Free)

-- the first cell of a list, if it has one
abbrev pub head_of : List ℕ → Option ℕ
head_of [] = None
head_of (c ∷ cs) = Some c

-- the drawing with a list of cells laid as a net: each names the one before it and the one after it, the first names b before it
abbrev pub laid_after : Option ℕ → List ℕ → List Record → List Record
laid_after b [] d = d
laid_after b (c ∷ cs) d = laid_after (Some c) cs (slice_set d c (Net b (head_of cs)))

abbrev pub laid : List ℕ → List Record → List Record
laid cs d = laid_after None cs d

-- a list with other numbers written to its front
abbrev pub written : List ℕ → List ℕ → List ℕ
written xs ys = xs ++ drop (length xs) ys

-- ---- what is answered about the net from the cell c on, in a drawing d of any records; None if going on from c comes to no end of a net

-- how many cells it has
abbrev pub Measured : List Record → ℕ → Option ℕ → Type 0
Measured d c None = (xs : List ℕ) → Runs d c xs → ⊥
Measured d c (Some n) = Runs d c (net d c) × (n ≡ length (net d c))

-- its last cell, after its cells are freed: e is the drawing then
abbrev pub TakenUp : List Record → List Record → ℕ → Option ℕ → Type 0
TakenUp d e c None = ((xs : List ℕ) → Runs d c xs → ⊥) × (e ≡ d)
TakenUp d e c (Some last) = Runs d c (net d c) × (last ≡ last_of c (net d c)) × (e ≡ freed (net d c) d)

-- how many cells it has, after they are written to the front of a list; None also if the list has not room for them
abbrev pub Listed : List Record → ℕ → List ℕ → List ℕ → Option ℕ → Type 0
Listed d c before after None = ((xs : List ℕ) → Runs d c xs → length xs ≤ length before → ⊥) × (after ≡ before)
Listed d c before after (Some n) = Runs d c (net d c) × (n ≡ length (net d c)) × (n ≤ length before) × (after ≡ written (net d c) before)

-- laying the net of a wired pad of d in e gives d
abbrev pub Restores : List Record → List Record → ℕ → Type 0
Restores d e c = (m : Meaning) → Lawful m d → first_at d c ≡ true → laid (net d c) e ≡ d
