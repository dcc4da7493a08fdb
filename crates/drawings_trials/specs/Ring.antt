-- Six cells in a ring.
use Rattle.std.specs.Prelude.{ℕ, ◌+◌, ◌%◌, ◌||◌, List, [], ◌∷◌, ◌==◌, nat_lt}
use Rattle.std.proofs.Common.{rules}
use Rattle.boards.specs.Meaning.{Meaning, Bounded, board_of}

-- each leads to itself, to the next, to the one before, and to the next once more
abbrev pub ring_outlets : ℕ → List ℕ
ring_outlets c = c ∷ ((c + 1) % 6) ∷ ((c + 5) % 6) ∷ ((c + 1) % 6) ∷ []

abbrev pub ring : Meaning
ring = board_of 6 ring_outlets (λ c. nat_lt c 2 || c == 3) (λ c. (c == 2) || c == 3)

pub ring_bounded : Bounded ring
ring_bounded = search rules
