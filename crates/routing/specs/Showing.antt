-- The pads and cells that a search which found no way shows.
use Rattle.std.specs.Prelude.{◌≡◌, ℕ, ◌<◌, Bool, true, false, not, ◌&&◌, ◌||◌, List, [], ◌∷◌, length, filter, Some, None, ◌==◌}
use Rattle.std.specs.List.{range_with_len}
use Rattle.linkages.specs.Lists.{Mem}
use Rattle.records.specs.declared.record.Record.{Record}
use Rattle.records.specs.declared.record.Record.TheVariants.{Free, Barred, Net}
use Rattle.records.specs.Records.{record_at}
use Rattle.drawings.specs.Nets.{first_at, cells_where}
use Rattle.drawings.specs.Changes.{written}
use Rattle.routing.specs.Searches.{was_entered}

-- an entered pad to be met: p, or a wired one
abbrev pub shows_pad : List Record → List ℕ → ℕ → ℕ → Bool
shows_pad d entered p c = was_entered entered c && (c == p || first_at d c)

-- the record of a net cell with none after it, or with one that was not entered
abbrev pub no_further : List ℕ → Record → Bool
no_further entered Free = false
no_further entered Barred = false
no_further entered (Net before None) = true
no_further entered (Net before (Some t)) = not (was_entered entered t)

-- the last entered cell of a net
abbrev pub shows_cell : List Record → List ℕ → ℕ → Bool
shows_cell d entered c = was_entered entered c && no_further entered (record_at d c)

-- all of them, in rising number
abbrev pub shown_pads : List Record → List ℕ → ℕ → List ℕ
shown_pads d entered p = cells_where d (shows_pad d entered p)

abbrev pub shown_cells : List Record → List ℕ → List ℕ
shown_cells d entered = cells_where d (shows_cell d entered)

-- answers to the numbers below n are those of the test p
abbrev pub Tells : (ℕ → Bool → Type 0) → (ℕ → Bool) → ℕ → Type 0
Tells Answers p n = (c : ℕ) (b : Bool) → c < n → Answers c b → b ≡ p c

-- the numbers below n that pass the test p stand at the front of a list, which is otherwise as before, and so many they are
pub record WritesPassing (p : ℕ → Bool) (n : ℕ) (before after : List ℕ) (count : ℕ) : Type 0 where
  pub counts : count ≡ length (filter p (range_with_len 0 n))
  pub writes : after ≡ written (filter p (range_with_len 0 n)) before

-- each number is above those before it
abbrev pub Rising : List ℕ → Type 0
Rising [] = Unit {0}
Rising (x ∷ xs) = ((c : ℕ) → Mem c xs → x < c) × Rising xs
