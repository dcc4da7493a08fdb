-- The cells that pass a test, in rising number.
use Rattle.std.proofs.Common.{◌≡◌, ℕ, ◌+◌, ◌<◌, ◌≤◌, Bool, true, List, [], ◌∷◌, ◌++◌, length, filter, ap, ◌∙◌, arith}
use Rattle.std.specs.List.{range_with_len}
use Rattle.std.proofs.lemmas.List.{map-id}
use Rattle.std.proofs.lemmas.List.Elements.{filter-append}
use Rattle.std.proofs.lemmas.List.FromFn.{length-range_with_len, map-range_with_len_more}
use Rattle.linkages.specs.Lists.{Mem, Distinct}
use Rattle.linkages.proofs.Members.{mem_kept, mem_of_kept, distinct_kept}
use Rattle.linkages.proofs.Pigeons.{within_length}
use Rattle.linkages.proofs.Places.{below_from_counting, counting_from_below, distinct_counting}

-- c is among the cells below n that pass exactly if it passes and is below n
pub kept_below : (p : ℕ → Bool) (n c : ℕ) → Mem c (filter p (range_with_len 0 n)) → (c < n) × (p c ≡ true)
kept_below p n c m = let h = mem_of_kept p c (range_with_len 0 n) m in (below_from_counting n c h.0, h.1)

pub below_kept : (p : ℕ → Bool) (n c : ℕ) → c < n → p c ≡ true → Mem c (filter p (range_with_len 0 n))
below_kept p n c l h = mem_kept p (counting_from_below n c l) h

pub distinct_kept_below : (p : ℕ → Bool) (n : ℕ) → Distinct (filter p (range_with_len 0 n))
distinct_kept_below p n = distinct_kept p (range_with_len 0 n) (distinct_counting n)

-- one cell more
pub kept_below_more : (p : ℕ → Bool) (n : ℕ) → filter p (range_with_len 0 (n + 1)) ≡ filter p (range_with_len 0 n) ++ filter p (n ∷ [])
kept_below_more p n =
    let e = map-range_with_len_more (λ (x : ℕ). x) 0 n n (omega arith) in
    let f : range_with_len 0 (n + 1) ≡ range_with_len 0 n ++ n ∷ [] = rw (map-id, map-id) at e in
    ap (filter p) f ∙ filter-append p (range_with_len 0 n) (n ∷ [])

-- different numbers below n are at most n
pub length_below : (n : ℕ) (xs : List ℕ) → Distinct xs → ((c : ℕ) → Mem c xs → c < n) → length xs ≤ n
length_below n xs d f =
    let h = within_length xs (range_with_len 0 n) d (λ c m. counting_from_below n c (f c m)) in omega (arith, length-range_with_len 0 n)
