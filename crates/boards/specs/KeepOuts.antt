-- Keep-outs: a board with some of its cells closed.
use Rattle.std.specs.Prelude.{◌≡◌, ℕ, ◌/◌, ◌%◌, ◌^◌, ◌≤◌, Bool, cond, not, ◌&&◌, ◌||◌, List, [], Some, None, Ok, Err, count_by, filter, Option, Result, ◌==◌, slice_index}
use Rattle.std.specs.List.{range_with_len}
use Rattle.boards.specs.declared.refusal.BoardRefusal.{BoardRefusal}
use Rattle.boards.specs.Meaning.{Meaning, when, board_of, outlets_of, pad_at, landing_at}

-- a closed cell has no outlets, is left out of all outlet lists, and is neither pad nor landing; all else stays, in its order
abbrev pub keep_out : (closed : ℕ → Bool) → Meaning → Meaning
keep_out closed m =
    board_of m.cells (λ c. cond (closed c) [] (filter (λ d. not (closed d)) (outlets_of m c)))
    (λ c. not (closed c) && pad_at m c) (λ c. not (closed c) && landing_at m c)

-- an outlet, if it is open
abbrev pub if_open : (closed : ℕ → Bool) → Option ℕ → Option ℕ
if_open closed (Some d) = when (not (closed d)) d
if_open closed None = None

-- the mask has one bit for each number below 4,096, 64 to a word: whether the bit of c is set
abbrev pub is_closed : (mask : List ℕ) → ℕ → Bool
is_closed mask c = slice_index mask (c / 64) / 2 ^ (c % 64) % 2 == 1

-- how many different numbers are closed
abbrev pub closed_count : (mask : List ℕ) → ℕ
closed_count mask = count_by (is_closed mask) (range_with_len 0 4096)

-- what is wrong with a cell to be closed, by number
abbrev pub CloseFault : Meaning → ℕ → ℕ → Type 0
CloseFault m c n = (n ≡ 16) × (m.cells ≤ c)

-- closing c closes it and no other cell, and a refusal closes nothing
abbrev pub Closes : ℕ → (before after : List ℕ) → {X : Type 0} → Result X BoardRefusal → Type 0
Closes c before after (Ok x) = (d : ℕ) → is_closed after d ≡ (d == c || is_closed before d)
Closes c before after (Err e) = after ≡ before
