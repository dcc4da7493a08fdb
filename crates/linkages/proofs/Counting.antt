-- Cells show that pads cannot be met exactly if there are fewer cells than pads.
use Rattle.std.proofs.Common.{◌≡◌, ℕ, ◌<◌, ◌≤◌, Bool, true, [], ◌∷◌, replicate, Decides, sym, refl, ◌∙◌, arith}
use native.Mathlib.Decide.{dec_lt}
use lib.ListN.{get_or-replicate}
use Rattle.std.specs.List.{range_with_len}
use Rattle.std.proofs.lemmas.List.FromFn.{length-range_with_len}
use Rattle.boards.specs.Meaning.{Meaning}
use Rattle.linkages.specs.Lists.{Within}
use Rattle.linkages.specs.Paths.{stop, Linkage}
use Rattle.linkages.specs.Fences.{TooFewCells}
use Rattle.linkages.proofs.Members.{mem_none, mem_one}
use Rattle.linkages.proofs.Places.{below_from_counting, counting_from_below, distinct_counting}
use Rattle.linkages.proofs.Walks.{walk_first}
use Rattle.linkages.proofs.OneFence.{too_few_cells}

-- n cells without outlets, each a landing
all_landings : ℕ → Meaning
all_landings n = record { cells = n; outlets = []; pads = []; landings = replicate n true }

linkage : (n : ℕ) → Linkage (all_landings n) [] (range_with_len 0 n)
unfolding all_landings
linkage n = record {
  path = λ q. q ∷ [];
  end = λ q. q;
  runs = λ q k. record { walk = stop mem_none refl; distinct = (mem_none, tt) };
  lands = λ q k. get_or-replicate n q true _ (below_from_counting n q k);
  apart = λ q r c _ _ i j. sym (mem_one i) ∙ mem_one j;
}

-- as many cells as pads or more show nothing
many_cells : (k n : ℕ) → n ≤ k → TooFewCells k n → ⊥
many_cells k n l h =
    let within : Within (range_with_len 0 n) (range_with_len 0 k) = λ c i. let j = below_from_counting n c i in counting_from_below k c (omega arith) in
    h (all_landings n) [] (range_with_len 0 n) (range_with_len 0 k) (range_with_len 0 n) (distinct_counting n) (length-range_with_len 0 k) (length-range_with_len 0 n)
    (λ a z xs i P _. record { cell = a; of = within a i; on = walk_first P.walk }) (λ c i. i) (linkage n)

pub decided_by_count : (r : Bool) (k n : ℕ) → (r ≡ true → k < n) → (k < n → r ≡ true) → Decides r (TooFewCells k n)
decided_by_count r k n to back = (λ e. too_few_cells k n (to e), λ h. back (fewer h (dec_lt k n)))
  where
    fewer : TooFewCells k n → Dec (k < n) → k < n
    fewer h (yes l) = l
    fewer h (no g) = absurd (many_cells k n (omega arith) h)
