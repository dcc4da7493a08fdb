-- The same facts by places in a list, counted from 0, as a program's loops have them.
use Rattle.std.specs.Prelude.{◌≡◌, ℕ, ◌+◌, ◌-◌, ◌<◌, List, length, ◌≢◌, slice_index}
use Rattle.std.specs.List.{ContainsAt}
use Rattle.boards.specs.Meaning.{Meaning, outlets_of}
use Rattle.linkages.specs.Lists.{Mem, Distinct, Next}
use Rattle.linkages.specs.Paths.{Unbarred, Walk}

pub record ByPlaces : Type 0 where
  pub mem_from_has : (xs : List ℕ) (c : ℕ) → ContainsAt xs c → Mem c xs
  pub has_from_mem : (xs : List ℕ) (c : ℕ) → Mem c xs → ContainsAt xs c
  pub distinct_from : (xs : List ℕ) → ((i j : ℕ) → i < j → j < length xs → slice_index xs i ≢ slice_index xs j) → Distinct xs
  pub distinct_at : (xs : List ℕ) → Distinct xs → (i j : ℕ) → i < j → j < length xs → slice_index xs i ≢ slice_index xs j
  pub next_from : (xs : List ℕ) (k : ℕ) → k + 1 < length xs → Next (slice_index xs k) (slice_index xs (k + 1)) xs
  pub next_at : (xs : List ℕ) (u t : ℕ) → Next u t xs → (k : ℕ) × (k + 1 < length xs) × (slice_index xs k ≡ u) × (slice_index xs (k + 1) ≡ t)
  pub walk_from : (m : Meaning) (bars xs : List ℕ) → 0 < length xs → ((k : ℕ) → k < length xs → Unbarred bars (slice_index xs k)) →
      ((k : ℕ) → k + 1 < length xs → Mem (slice_index xs (k + 1)) (outlets_of m (slice_index xs k))) →
      Walk m bars (slice_index xs (length xs - 1)) (slice_index xs 0) xs
