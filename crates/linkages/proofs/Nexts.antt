-- What comes right after what in a list.
use Rattle.std.proofs.Common.{◌≡◌, ℕ, ◌⊎◌, List, [], ◌∷◌, sym, ◌∙◌, inl, inr}
use Rattle.linkages.specs.Lists.{Mem, here, there, Distinct, Next, begins, goes_on}
use Rattle.linkages.proofs.Members.{mem_at}

pub next_cases : {u t x : ℕ} {xs : List ℕ} → Next u t (x ∷ xs) → (u ≡ x) ⊎ Next u t xs
next_cases (begins e f) = inl e
next_cases (goes_on n) = inr n

pub next_two : {u t x y : ℕ} {xs : List ℕ} → Next u t (x ∷ y ∷ xs) → ((u ≡ x) × (t ≡ y)) ⊎ Next u t (y ∷ xs)
next_two (begins e f) = inl (e, f)
next_two (goes_on n) = inr n

pub next_not_one : {u t x : ℕ} → Next u t (x ∷ []) → ⊥
next_not_one (goes_on n) = elim n [ ]

unfoldable pub next_right : {u t : ℕ} {xs : List ℕ} → Next u t xs → Mem t xs
next_right (begins e f) = there (here f)
next_right (goes_on n) = there (next_right n)

unfoldable pub next_left : {u t : ℕ} {xs : List ℕ} → Next u t xs → Mem u xs
next_left (begins e f) = here e
next_left (goes_on n) = there (next_left n)

pub next_tail : {u t x : ℕ} {xs : List ℕ} → Next u t (x ∷ xs) → Mem t xs
next_tail (begins e f) = here f
next_tail (goes_on n) = next_right n

-- in a list without repeats one cell at most comes right before a cell, and one right after it
pub next_one_before : {u v t : ℕ} {xs : List ℕ} → Distinct xs → Next u t xs → Next v t xs → u ≡ v
next_one_before d (begins e f) (begins g h) = e ∙ sym g
next_one_before d (begins e f) (goes_on n) = absurd (d.1.0 (mem_at (sym f) (next_tail n)))
next_one_before d (goes_on n) (begins e f) = absurd (d.1.0 (mem_at (sym f) (next_tail n)))
next_one_before d (goes_on n) (goes_on k) = next_one_before d.1 n k

pub next_one_after : {u s t : ℕ} {xs : List ℕ} → Distinct xs → Next u s xs → Next u t xs → s ≡ t
next_one_after d (begins e f) (begins g h) = f ∙ sym h
next_one_after d (begins e f) (goes_on n) = absurd (d.0 (mem_at (sym e) (next_left n)))
next_one_after d (goes_on n) (begins e f) = absurd (d.0 (mem_at (sym e) (next_left n)))
next_one_after d (goes_on n) (goes_on k) = next_one_after d.1 n k
