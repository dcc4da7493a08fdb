-- The rows of digits of a map in a text.
use Rattle.std.specs.Prelude.{◌≡◌, ℕ, ◌-◌, ◌<◌, ◌≤◌, Bool, true, List, ◌++◌, map, length, Decides, slice_index}

-- the row has one digit for each column, in codes 48 for 0 to 57 for 9
abbrev pub Digits : ℕ → List ℕ → Type 0
Digits columns row = (length row ≡ columns) × ((i : ℕ) → i < length row → (48 ≤ slice_index row i) × (slice_index row i ≤ 57))

-- the digits of a row are added to the bytes before, exactly if it is such a row
abbrev pub ReadsRow : ℕ → List ℕ → (before after : List ℕ) → Bool → Type 0
ReadsRow columns row before after ok = Decides ok (Digits columns row) × (ok ≡ true → after ≡ before ++ map (λ b. b - 48) row)
