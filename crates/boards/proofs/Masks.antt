-- Bits of a mask: setting one, and counting them all.
use Rattle.std.proofs.Common.{◌≡◌, ℕ, zero, suc, ◌+◌, ◌*◌, ◌/◌, ◌%◌, ◌^◌, ◌<◌, ◌≤◌, Bool, false, cond, ◌||◌, eqb, List, [], ◌∷◌, length, get_or, take, set, replicate, sum_by, count_by, sym, refl, ap, ◌∙◌, ⊎_elim, add-zero, add_assoc, pow-suc, zero-add, div-one, arith, get_or-set_other, get_or-set_same}
use native.Mathlib.Nat.{zero-div}
use lib.Bits.{bit_or}
use mir.Syntax.{w64}
use mir.Val.{bits}
use Rattle.std.specs.Int.{bit_at}
use Rattle.std.proofs.lemmas.Nat.Bits.{bit_at_set_same, bit_at_set_other}
use lib.Count.{ones, ones_step, ones-ones, ones-le}
use lib.ListN.{get_or-replicate}
use Rattle.std.specs.List.{range_with_len}
use Rattle.std.proofs.lemmas.Nat.{shr-shr, div-add-mod', mod_below, div_below}
use Rattle.std.proofs.lemmas.List.{length-take, get_or_past}
use Rattle.std.proofs.lemmas.List.Sums.{sum_by-cons}
use Rattle.std.proofs.lemmas.Bool.{cases_lt, cases_eq, eq-eqb, ne_eqb, or_left}
use Rattle.boards.specs.KeepOuts.{is_closed, closed_count}

or_false : (x y : Bool) → x ≡ false → (x || y) ≡ y
or_false x y e = rw e

-- setting the bit_at of c closes c and nothing else
module _ (mask : List ℕ) (c : ℕ) (h : c / 64 < length mask) where
  abbrev word : ℕ
  word = get_or mask (c / 64) 0

  abbrev after : List ℕ
  after = set mask (c / 64) (bit_or word (1 * 2 ^ (c % 64) % 2 ^ bits w64))

  same_cell : (d : ℕ) → d / 64 ≡ c / 64 → d % 64 ≡ c % 64 → d ≡ c
  same_cell d e f = omega (arith, div-add-mod' d 64, div-add-mod' c 64)

  same_word : (d : ℕ) → d / 64 ≡ c / 64 → get_or after (d / 64) 0 ≡ bit_or word (1 * 2 ^ (c % 64) % 2 ^ bits w64)
  same_word d e = ap (λ k. get_or after k 0) e ∙ get_or-set_same mask (c / 64) _ 0 h

  -- another cell is as it was, where its bit_at is
  as_was : (d : ℕ) → (d ≡ c → ⊥) → bit_at (get_or after (d / 64) 0) (d % 64) ≡ bit_at (get_or mask (d / 64) 0) (d % 64) →
      is_closed after d ≡ (eqb d c || is_closed mask d)
  as_was d n e = ap (λ v. eqb v 1) e ∙ sym (or_false (eqb d c) (is_closed mask d) (ne_eqb d c n))

  pub closing : (d : ℕ) → is_closed after d ≡ (eqb d c || is_closed mask d)
  closing d = ⊎_elim
      (λ e. ⊎_elim
      (λ f.
      let one = ap (λ v. bit_at v (d % 64)) (same_word d e) ∙ ap (bit_at (bit_or word (1 * 2 ^ (c % 64) % 2 ^ bits w64))) f ∙ bit_at_set_same w64 word (c % 64) (omega arith) in
      eq-eqb _ 1 one ∙ sym (or_left (eqb d c) (is_closed mask d) (eq-eqb d c (same_cell d e f))))
      (λ f. as_was d (λ g. f (ap (λ v. v % 64) g))
      (ap (λ v. bit_at v (d % 64)) (same_word d e) ∙ bit_at_set_other w64 word (c % 64) (omega arith) (d % 64) f ∙ ap (λ k. bit_at (get_or mask k 0) (d % 64)) (sym e)))
      (cases_eq (d % 64) (c % 64)))
      (λ n. as_was d (λ g. n (ap (λ v. v / 64) g)) (ap (λ v. bit_at v (d % 64)) (get_or-set_other mask (c / 64) (d / 64) _ 0 n)))
      (cases_eq (d / 64) (c / 64))

-- a mask of zeros closes nothing
pub nothing_closed : (c : ℕ) → is_closed (replicate 64 0) c ≡ false
nothing_closed c = ap (λ w. eqb (bit_at w (c % 64)) 1) zero_word ∙ ap (λ b. eqb (b % 2) 1) (zero-div (2 ^ (c % 64)))
  where
    zero_word : ◌≡◌ {A = ℕ} (get_or (replicate 64 0) (c / 64) 0) 0
    zero_word = ⊎_elim (λ h. get_or-replicate 64 (c / 64) 0 0 h) (λ h. get_or_past (replicate 64 0) (c / 64) 0 h) (cases_lt (c / 64) 64)

-- how many of the n numbers from a on pass
count : (ℕ → Bool) → ℕ → ℕ → ℕ
count p a zero = 0
count p a (suc n) = cond (p a) 1 0 + count p (a + 1) n

count_is : (p : ℕ → Bool) (n a : ℕ) → count_by p (range_with_len a n) ≡ count p a n
unfolding count
count_is p zero a = refl
count_is p (suc n) a = sum_by-cons (λ x. cond (p x) 1 0) a (range_with_len (a + 1) n) ∙ ap (λ t. cond (p a) 1 0 + t) (count_is p n (a + 1))

count_same : (p q : ℕ → Bool) (n a b : ℕ) → ((i : ℕ) → i < n → p (a + i) ≡ q (b + i)) → count p a n ≡ count q b n
unfolding count
count_same p q zero a b f = refl
count_same p q (suc n) a b f =
    let first : p a ≡ q b = ap p (sym (add-zero a)) ∙ f 0 (omega arith) ∙ ap q (add-zero b) in
    let e : (i : ℕ) → a + 1 + i ≡ a + suc i = λ i. omega arith in
    let g : (i : ℕ) → b + 1 + i ≡ b + suc i = λ i. omega arith in
    let rest = count_same p q n (a + 1) (b + 1) (λ i h. ap p (e i) ∙ f (suc i) (omega arith) ∙ ap q (sym (g i))) in
    ap (λ t. cond t 1 0 + count p (a + 1) n) first ∙ ap (λ t. cond (q b) 1 0 + t) rest

count_split : (p : ℕ → Bool) (n m a : ℕ) → count p a (n + m) ≡ count p a n + count p (a + n) m
unfolding count
count_split p zero m a = ap (count p a) (zero-add m) ∙ ap (λ t. count p t m) (sym (add-zero a)) ∙ sym (zero-add _)
count_split p (suc n) m a =
    let e : suc n + m ≡ suc (n + m) = omega arith in
    let g : a + 1 + n ≡ a + suc n = omega arith in
    ap (count p a) e ∙ ap (λ t. cond (p a) 1 0 + t) (count_split p n m (a + 1)) ∙ sym (add_assoc _ _ _)
    ∙ ap (λ t. cond (p a) 1 0 + count p (a + 1) n + count p t m) g

-- the ones of a number of k bits
bit_counts : (b : ℕ) → b < 2 → cond (eqb b 1) 1 0 ≡ b
bit_counts zero h = refl
bit_counts (suc zero) h = refl
bit_counts (suc (suc b)) h = let z : ⊥ = omega arith in absurd z

ones_count : (k w : ℕ) → w < 2 ^ k → ones w ≡ count (λ i. eqb (bit_at w i) 1) 0 k
unfolding count
ones_count zero w h = let e : w ≡ 0 = omega arith in ap ones e ∙ ones-ones 0
ones_count (suc k) w h =
    let half : w / 2 < 2 ^ k = div_below w 2 (2 ^ k) (omega arith) (omega (arith, pow-suc 2 k)) in
    let low : w % 2 ≡ cond (eqb (bit_at w 0) 1) 1 0 = sym (bit_counts (w % 2) (mod_below w 2 (omega arith))) ∙ ap (λ t. cond (eqb (t % 2) 1) 1 0) (sym (div-one w)) in
    let shift = count_same (λ i. eqb (bit_at (w / 2) i) 1) (λ i. eqb (bit_at w i) 1) k 0 1
    (λ i _. ap (λ t. eqb (t % 2) 1) (ap (λ j. w / 2 / 2 ^ j) (zero-add i) ∙ shr-shr w 1 i)) in
    ones_step w ∙ ap (λ t. t + ones (w / 2)) low ∙ ap (λ t. cond (eqb (bit_at w 0) 1) 1 0 + t) (ones_count k (w / 2) half ∙ shift)

-- the first 64 numbers are in the first word, and the others in the words after it
module _ (x : ℕ) (ws : List ℕ) (i : ℕ) where
  in_first : i < 64 → eqb (bit_at x (0 + i)) 1 ≡ is_closed (x ∷ ws) (0 + i)
  in_first h =
      let q : (0 + i) / 64 ≡ 0 = omega arith in
      let r : (0 + i) % 64 ≡ 0 + i = omega arith in
      sym (ap (λ b. eqb b 1) (ap (λ k. bit_at (get_or (x ∷ ws) k 0) ((0 + i) % 64)) q ∙ ap (bit_at x) r))

  in_next : is_closed ws (0 + i) ≡ is_closed (x ∷ ws) (64 + i)
  in_next =
      let q : (64 + i) / 64 ≡ suc ((0 + i) / 64) = omega arith in
      let r : (64 + i) % 64 ≡ (0 + i) % 64 = omega arith in
      sym (ap (λ b. eqb b 1) (ap (λ k. bit_at (get_or (x ∷ ws) k 0) ((64 + i) % 64)) q ∙ ap (bit_at (get_or ws ((0 + i) / 64) 0)) r))

word_count : (ws : List ℕ) → ((k : ℕ) → k < length ws → get_or ws k 0 < 2 ^ 64) → sum_by ones ws ≡ count (is_closed ws) 0 (64 * length ws)
unfolding count
word_count [] f = refl
word_count (x ∷ ws) f =
    let n = length ws in
    let e : 64 * suc n ≡ 64 + 64 * n = omega arith in
    let first = ones_count 64 x (f 0 (omega arith)) ∙ count_same (λ i. eqb (bit_at x i) 1) (is_closed (x ∷ ws)) 64 0 0 (in_first x ws) in
    let rest = word_count ws (λ k h. f (suc k) (omega arith)) ∙ count_same (is_closed ws) (is_closed (x ∷ ws)) (64 * n) 0 64 (λ i h. in_next x ws i) in
    sum_by-cons ones x ws ∙ ap (λ t. t + sum_by ones ws) first ∙ ap (λ t. count (is_closed (x ∷ ws)) 0 64 + t) rest
    ∙ sym (ap (count (is_closed (x ∷ ws)) 0) e ∙ count_split (is_closed (x ∷ ws)) 64 (64 * n) 0)

-- the ones of a mask of 64 words are the numbers that it closes
pub ones_closed : (mask : List ℕ) → length mask ≡ 64 → ((k : ℕ) → k < length mask → get_or mask k 0 < 2 ^ 64) → sum_by ones mask ≡ closed_count mask
ones_closed mask l f =
    word_count mask f ∙ ap (count (is_closed mask) 0) (ap (λ n. 64 * n) l) ∙ sym (count_is (is_closed mask) 4096 0)

-- and they are few
pub few_ones : (mask : List ℕ) → ((k : ℕ) → k < length mask → get_or mask k 0 < 2 ^ 64) → sum_by ones mask ≤ 64 * length mask
few_ones [] f = omega arith
few_ones (x ∷ ws) f = omega (arith, sum_by-cons ones x ws, ones-le 64 x (f 0 (omega arith)), few_ones ws (λ k h. f (suc k) (omega arith)))

-- a part from the front of a mask is no longer than it
pub part_short : (n : ℕ) (mask : List ℕ) → length mask ≡ 64 → length (take n mask) ≤ 64
part_short n mask l = omega (arith, length-take n mask, l)
