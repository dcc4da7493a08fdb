-- Membership, distinctness, neighbours and walks by places, and the list of the cells below n.
use Rattle.std.proofs.Common.{◌≡◌, ℕ, zero, suc, ◌+◌, ◌-◌, ◌<◌, List, [], ◌∷◌, length, get_or, sym, refl, not-suc-le-zero, add-one, arith}
use Rattle.std.specs.List.{range_with_len, ContainsAt}
use Rattle.std.proofs.lemmas.List.FromFn.{length-range_with_len, get_or-range_with_len}
use Rattle.boards.specs.Meaning.{Meaning, outlets_of}
use Rattle.linkages.specs.Lists.{Mem, here, there, Distinct, Next, begins, goes_on}
use Rattle.linkages.specs.Paths.{Unbarred, Walk, stop, step}
use Rattle.linkages.specs.Places.{ByPlaces}
use Rattle.linkages.proofs.Members.{mem_none, mem_at}

pub mem_get_or : (xs : List ℕ) (k d : ℕ) → k < length xs → Mem (get_or xs k d) xs
mem_get_or [] k d h = absurd (not-suc-le-zero h)
mem_get_or (x ∷ xs) zero d h = here refl
mem_get_or (x ∷ xs) (suc k) d h = there (mem_get_or xs k d (omega arith))

pub mem_from_has : (xs : List ℕ) (c : ℕ) → ContainsAt xs c → Mem c xs
mem_from_has xs c h = mem_at (sym (h.2 0)) (mem_get_or xs h.0 0 h.1)

pub has_from_mem : (xs : List ℕ) (c : ℕ) → Mem c xs → ContainsAt xs c
has_from_mem [] c m = absurd (mem_none m)
has_from_mem (x ∷ xs) c (here e) = (0, omega arith, λ d. sym e)
has_from_mem (x ∷ xs) c (there m) = let h = has_from_mem xs c m in (suc h.0, omega (arith, h.1), h.2)

pub distinct_from : (xs : List ℕ) → ((i j : ℕ) → i < j → j < length xs → get_or xs i 0 ≡ get_or xs j 0 → ⊥) → Distinct xs
distinct_from [] f = tt
distinct_from (x ∷ xs) f = (first, distinct_from xs (λ i j l k. f (suc i) (suc j) (omega arith) (omega arith)))
  where
    first : Mem x xs → ⊥
    first m = let h = has_from_mem xs x m in f 0 (suc h.0) (omega arith) (omega (arith, h.1)) (sym (h.2 0))

pub distinct_at : (xs : List ℕ) → Distinct xs → (i j : ℕ) → i < j → j < length xs → get_or xs i 0 ≡ get_or xs j 0 → ⊥
distinct_at [] d i j l k e = not-suc-le-zero k
distinct_at (x ∷ xs) d i zero l k e = not-suc-le-zero l
distinct_at (x ∷ xs) d zero (suc j) l k e = d.0 (mem_at e (mem_get_or xs j 0 (omega arith)))
distinct_at (x ∷ xs) d (suc i) (suc j) l k e = distinct_at xs d.1 i j (omega arith) (omega arith) e

next_from : (xs : List ℕ) (k : ℕ) → suc k < length xs → Next (get_or xs k 0) (get_or xs (suc k) 0) xs
next_from [] k h = absurd (not-suc-le-zero h)
next_from (x ∷ []) k h = absurd (let j : ⊥ = omega arith in j)
next_from (x ∷ y ∷ xs) zero h = begins refl refl
next_from (x ∷ y ∷ xs) (suc k) h = goes_on (next_from (y ∷ xs) k (omega arith))

next_at : (xs : List ℕ) (u t : ℕ) → Next u t xs → (k : ℕ) × (suc k < length xs) × (get_or xs k 0 ≡ u) × (get_or xs (suc k) 0 ≡ t)
next_at [] u t n = elim n [ ]
next_at (x ∷ xs) u t (begins e f) = (0, omega arith, sym e, sym f)
next_at (x ∷ xs) u t (goes_on n) = let h = next_at xs u t n in (suc h.0, omega (arith, h.1), h.2, h.3)

walk_from : (m : Meaning) (bars : List ℕ) (x : ℕ) (xs : List ℕ) →
    ((k : ℕ) → k < length (x ∷ xs) → Unbarred bars (get_or (x ∷ xs) k 0)) →
    ((k : ℕ) → suc k < length (x ∷ xs) → Mem (get_or (x ∷ xs) (suc k) 0) (outlets_of m (get_or (x ∷ xs) k 0))) →
    Walk m bars (get_or (x ∷ xs) (length xs) 0) x (x ∷ xs)
walk_from m bars x [] f o = stop (f 0 (omega arith)) refl
walk_from m bars x (y ∷ ys) f o =
    step (f 0 (omega arith)) (o 0 (omega arith)) (walk_from m bars y ys (λ k h. f (suc k) (omega arith)) (λ k h. o (suc k) (omega arith)))

walk_at : (m : Meaning) (bars xs : List ℕ) → 0 < length xs → ((k : ℕ) → k < length xs → Unbarred bars (get_or xs k 0)) →
    ((k : ℕ) → k + 1 < length xs → Mem (get_or xs (k + 1) 0) (outlets_of m (get_or xs k 0))) →
    Walk m bars (get_or xs (length xs - 1) 0) (get_or xs 0 0) xs
walk_at m bars [] h f o = absurd (not-suc-le-zero h)
walk_at m bars (x ∷ xs) h f o =
    let e : length (x ∷ xs) - 1 ≡ length xs = omega arith in
    rw e (walk_from m bars x xs f (λ k l. rw add-one at (o k (omega arith))))

pub by_places : ByPlaces
by_places = record {
  mem_from_has = mem_from_has;
  has_from_mem = has_from_mem;
  distinct_from = distinct_from;
  distinct_at = distinct_at;
  next_from = λ xs k h. rw add-one (next_from xs k (omega arith));
  next_at = λ xs u t n. let h = next_at xs u t n in (h.0, omega (arith, h.1), h.2, rw add-one h.3);
  walk_from = walk_at;
}

-- ---- the cells below n

pub below_from_counting : (n c : ℕ) → Mem c (range_with_len 0 n) → c < n
below_from_counting n c k =
    let h = has_from_mem (range_with_len 0 n) c k in
    let l = length-range_with_len 0 n in
    let i : h.0 < n = omega (arith, h.1) in
    let e = h.2 0 in
    let f = get_or-range_with_len 0 n h.0 0 i in
    omega arith

pub counting_from_below : (n c : ℕ) → c < n → Mem c (range_with_len 0 n)
counting_from_below n c h =
    let l = length-range_with_len 0 n in
    let e = get_or-range_with_len 0 n c 0 h in
    mem_at (omega arith) (mem_get_or (range_with_len 0 n) c 0 (omega arith))

pub distinct_counting : (n : ℕ) → Distinct (range_with_len 0 n)
distinct_counting n = distinct_from (range_with_len 0 n) (λ i j l k e.
    let h = length-range_with_len 0 n in
    let f = get_or-range_with_len 0 n i 0 (omega arith) in
    let g = get_or-range_with_len 0 n j 0 (omega arith) in
    omega arith)
