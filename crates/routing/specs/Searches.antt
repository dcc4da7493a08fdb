-- What a search for a way remembers, what holds of it while it goes on, and how it ends.
use Rattle.std.specs.Prelude.{◌≡◌, ℕ, ◌+◌, ◌<◌, ◌≤◌, Bool, true, false, cond, ◌||◌, List, length, Some, None, Option, ◌==◌, ◌≢◌, slice_index, slice_set}
use Rattle.boards.specs.Meaning.{Meaning, outlet_at, landing_at}
use Rattle.linkages.specs.Nets.{Failed}
use Rattle.records.specs.declared.record.Record.{Record}
use Rattle.records.specs.declared.record.Record.TheVariants.{Free, Barred, Net}
use Rattle.records.specs.Records.{record_at}
use Rattle.drawings.specs.Nets.{barred_at, bars, nets}
use Rattle.rewiring.specs.Trails.{exit_of, Enters}

-- entered: for each cell 1 if it was entered. queue: the entered cells in the order of their entering, count of them.
-- from: for each place of the queue the place of the cell that it was entered from
pub record Notes : Type 0 where
  pub entered : List ℕ
  pub queue : List ℕ
  pub from : List ℕ
  pub count : ℕ

abbrev pub notes : List ℕ → List ℕ → List ℕ → ℕ → Notes
notes entered queue from count = record { entered = entered; queue = queue; from = from; count = count }

-- memory for the three, by its lengths: one number for each cell of a board
pub record Alike (entered queue from : ℕ) : Type 0 where
  pub few : entered ≤ 4096
  pub queue_alike : queue ≡ entered
  pub from_alike : from ≡ entered

abbrev pub was_entered : List ℕ → ℕ → Bool
was_entered entered c = slice_index entered c == 1

-- the cell at a place of the queue, and the place of the cell that it was entered from
abbrev pub cell_at : Notes → ℕ → ℕ
cell_at s k = slice_index s.queue k

abbrev pub from_at : Notes → ℕ → ℕ
from_at s k = slice_index s.from k

-- a landing that a wire could end at: neither barred nor on a net
abbrev pub free_landing : Record → Bool → Bool
free_landing Free b = b
free_landing Barred b = false
free_landing (Net before after) b = false

abbrev pub open_at : Meaning → List Record → ℕ → Bool
open_at m d c = free_landing (record_at d c) (landing_at m c)

-- the notes with c entered as well, from the cell at place k
abbrev pub entered_also : Notes → ℕ → ℕ → Notes
entered_also s k c = notes (slice_set s.entered c 1) (slice_set s.queue s.count c) (slice_set s.from s.count k) (s.count + 1)

-- the same, unless c is barred or was entered before
abbrev pub visited : List Record → Notes → ℕ → ℕ → Notes
visited d s k c = cond (barred_at d c || was_entered s.entered c) s (entered_also s k c)

-- a search from p over the drawing d: the queue holds the entered cells, each once, p first; none of them is barred, and each
-- other can be entered from the one at the place noted, which comes earlier
pub record Searching (m : Meaning) (d : List Record) (p : ℕ) (s : Notes) : Type 0 where
  pub entered_long : length s.entered ≡ length d
  pub queue_long : length s.queue ≡ length d
  pub from_long : length s.from ≡ length d
  pub some : 0 < s.count
  pub fits : s.count ≤ length d
  pub starts : cell_at s 0 ≡ p
  pub queued : (k : ℕ) → k < s.count → was_entered s.entered (cell_at s k) ≡ true
  pub listed : (c : ℕ) → was_entered s.entered c ≡ true → (k : ℕ) × (k < s.count) × (cell_at s k ≡ c)
  pub differ : (i j : ℕ) → i < j → j < s.count → cell_at s i ≢ cell_at s j
  pub unbarred : (k : ℕ) → k < s.count → barred_at d (cell_at s k) ≡ false
  pub earlier : (k : ℕ) → 0 < k → k < s.count → from_at s k < k
  pub enters : (k : ℕ) → 0 < k → k < s.count → Enters m d (cell_at s (from_at s k)) (cell_at s k)

-- none of the first k cells of the queue is an open landing
abbrev pub NoneOpen : Meaning → List Record → Notes → ℕ → Type 0
NoneOpen m d s k = (i : ℕ) → i < k → open_at m d (cell_at s i) ≡ false

-- whatever can be entered from one of the first k cells of the queue was entered
abbrev pub Closed : Meaning → List Record → Notes → ℕ → Type 0
Closed m d s k = (i : ℕ) → i < k → (t : ℕ) → Enters m d (cell_at s i) t → was_entered s.entered t ≡ true

-- between two cells: the first k cells of the queue are done with
pub record Waiting (m : Meaning) (d : List Record) (p : ℕ) (s : Notes) (k : ℕ) : Type 0 where
  pub searching : Searching m d p s
  pub none_open : NoneOpen m d s s.count
  pub closed : Closed m d s k
  pub inside : k ≤ s.count

-- among the outlets: the search goes on from u, the exit of the cell at place k, and has looked at the first j outlets of it
pub record Scanning (m : Meaning) (d : List Record) (p : ℕ) (s : Notes) (k u j : ℕ) : Type 0 where
  pub searching : Searching m d p s
  pub none_open : NoneOpen m d s s.count
  pub closed : Closed m d s k
  pub inside : k < s.count
  pub exit : exit_of (record_at d (cell_at s k)) (cell_at s k) ≡ Some u
  pub back : was_entered s.entered u ≡ true
  pub scanned : (i t : ℕ) → i < j → outlet_at m u i ≡ Some t → barred_at d t ≡ false → was_entered s.entered t ≡ true

-- the search came to the open landing z, the last cell of the queue, and to no other
pub record Came (m : Meaning) (d : List Record) (p : ℕ) (s : Notes) (z : ℕ) : Type 0 where
  pub searching : Searching m d p s
  pub last : ℕ
  pub count : s.count ≡ last + 1
  pub lands : cell_at s last ≡ z
  pub lies_open : open_at m d z ≡ true
  pub none_before : NoneOpen m d s last

-- how a search ends: with an open landing, or with none, and then all that can be entered was entered
abbrev pub Ended : Meaning → List Record → ℕ → Notes → Option ℕ → Type 0
Ended m d p s None = Failed m (bars d) (nets d) p (was_entered s.entered)
Ended m d p s (Some z) = Came m d p s z
