-- The way that a search took to a cell of its queue.
use Rattle.std.specs.Prelude.{◌≡◌, ℕ, ◌<◌, List, [], ◌∷◌, slice_index}

-- xs are cells of the queue, from the one at place i to the one at place k; each stands at the place noted for the one after it
pub data Course (queue from : List ℕ) (k : ℕ) : ℕ → List ℕ → Type 0 where
  arrives : Course queue from k k (slice_index queue k ∷ [])
  comes : {h i : ℕ} {xs : List ℕ} → 0 < i → h ≡ slice_index from i → Course queue from k i xs → Course queue from k h (slice_index queue h ∷ xs)
