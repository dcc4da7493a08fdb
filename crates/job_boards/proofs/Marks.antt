-- Marking a point of a map.
use Rattle.std.proofs.Common.{◌≡◌, ℕ, ◌+◌, ◌*◌, ◌/◌, ◌%◌, ◌^◌, ◌<◌, ◌≤◌, ◌⊎◌, List, length, get_or, set, bit_or, sym, refl, ap, ◌∙◌, inl, inr, ⊎_elim, arith, lit<}
use Rattle.std.specs.Int.Bits.{or_zero_r}
use Rattle.std.proofs.lemmas.Nat.{or_block, or_lt}
use Rattle.std.proofs.lemmas.Grind.{get_or_default_zero}
use Rattle.std.proofs.lemmas.Bool.{cases_eq, cond-true, cond-false, eq-eqb, ne_eqb}
use Rattle.boards.specs.declared.maps.MapKind.{MapKind}
use Rattle.boards.specs.declared.maps.MapKind.TheVariants.{FieldMap, EscapeMap}
use Rattle.boards.specs.Maps.{last_named}
use Rattle.job_boards.specs.Plans.{also_pad, also_landing}

-- the byte at i is written anew
pub marked : (f : ℕ → ℕ) (bytes : List ℕ) (i n x v : ℕ) → i < length bytes → i ≡ n → x ≡ get_or bytes i x → v ≡ f x →
    set bytes i v ≡ set bytes n (f (get_or bytes n 0))
marked f bytes i n x v h e k w = let g = k ∙ get_or_default_zero bytes i x h in cc

-- a bit of the low k bits is set
or_low : (k b m c : ℕ) → m < 2 ^ k → b ≡ c * 2 ^ k + b % 2 ^ k → b % 2 ^ k < 2 ^ k → bit_or b (0 * 2 ^ k + m) ≡ c * 2 ^ k + bit_or (b % 2 ^ k) m
or_low k b m c h e l =
    ap (λ x. bit_or x (0 * 2 ^ k + m)) e ∙ or_block k c 0 (b % 2 ^ k) m l h ∙ ap (λ x. x * 2 ^ k + bit_or (b % 2 ^ k) m) (or_zero_r c)

pub or_pad : (b : ℕ) → bit_or b 1 ≡ also_pad b
or_pad b =
    let low : bit_or b 1 ≡ b / 2 * 2 + bit_or (b % 2) 1 = or_low 1 b 1 (b / 2) (lit< tt) (omega arith) (omega arith) in
    ⊎_elim
    (λ e. let o : bit_or (b % 2) 1 ≡ 1 = ap (λ x. bit_or x 1) e in sym (cond-true _ _ _ (eq-eqb (b % 2) 1 e) ∙ omega (arith, low, o)))
    (λ n. let o : bit_or (b % 2) 1 ≡ 1 = ap (λ x. bit_or x 1) (let z : b % 2 ≡ 0 = omega arith in z) in
    sym (cond-false _ _ _ (ne_eqb (b % 2) 1 n) ∙ omega (arith, low, o)))
    (cases_eq (b % 2) 1)

pub or_landing : (b : ℕ) → bit_or b 2 ≡ also_landing b
or_landing b =
    let low : bit_or b 2 ≡ b / 4 * 4 + bit_or (b % 4) 2 = or_low 2 b 2 (b / 4) (lit< tt) (omega arith) (omega arith) in
    ⊎_elim
    (λ e. sym (cond-true _ _ _ (eq-eqb (b / 2 % 2) 1 e) ∙ omega (arith, low, ⊎_elim (λ k. high 2 refl k) (λ k. high 3 refl k) (upper e))))
    (λ n. sym (cond-false _ _ _ (ne_eqb (b / 2 % 2) 1 n) ∙ omega (arith, low, ⊎_elim (λ k. high 0 refl k) (λ k. high 1 refl k) (lower n))))
    (cases_eq (b / 2 % 2) 1)
  where
    high : (x : ℕ) → bit_or x 2 ≡ 2 + x % 2 → b % 4 ≡ x → bit_or (b % 4) 2 ≡ 2 + b % 2
    high x o e = ap (λ y. bit_or y 2) e ∙ o ∙ omega arith

    upper : b / 2 % 2 ≡ 1 → (b % 4 ≡ 2) ⊎ (b % 4 ≡ 3)
    upper e = ⊎_elim (λ k. inl k) (λ k. inr (omega arith)) (cases_eq (b % 4) 2)

    lower : (b / 2 % 2 ≡ 1 → ⊥) → (b % 4 ≡ 0) ⊎ (b % 4 ≡ 1)
    lower n = ⊎_elim (λ k. inl k) (λ k. inr (omega arith)) (cases_eq (b % 4) 0)

-- a byte that is named for its kind of board is so as a pad point
pub pad_known : (kind : MapKind) (b : ℕ) → b ≤ last_named kind → bit_or b 1 ≤ last_named kind
pad_known FieldMap b h = omega (arith, or_lt 2 b 1 (omega arith) (lit< tt))
pad_known EscapeMap b h = omega (arith, or_lt 1 b 1 (omega arith) (lit< tt))
