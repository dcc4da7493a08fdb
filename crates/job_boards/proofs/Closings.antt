-- Closing one number after another, as far as they are cells.
use Rattle.std.proofs.Common.{◌≡◌, ℕ, ◌+◌, ◌<◌, ◌≤◌, Bool, true, false, cond, ◌||◌, eqb, ltb, List, [], ◌∷◌, ◌++◌, length, get_or, take, Ok, Err, filter, Result, sym, refl, ap, ◌∙◌, ⊎_elim, append-nil, take_all}
use Rattle.std.proofs.Math.Bool.{or_assoc}
use Rattle.std.proofs.lemmas.List.Elements.{filter_more}
use Rattle.std.proofs.lemmas.Bool.{cases_lt, lt-ltb, le-ltb}
use Rattle.boards.specs.declared.refusal.BoardRefusal.{BoardRefusal}
use Rattle.boards.specs.Meaning.{Meaning}
use Rattle.boards.specs.Numbers.{number_of}
use Rattle.boards.specs.Refusals.{Answer}
use Rattle.boards.specs.KeepOuts.{is_closed, CloseFault, Closes}
use Rattle.job_boards.specs.Plans.{among}

or_swap : (x y : Bool) → (x || y) ≡ (y || (x || false))
or_swap true true = refl
or_swap true false = refl
or_swap false true = refl
or_swap false false = refl

among_append : (xs ys : List ℕ) (c : ℕ) → among (xs ++ ys) c ≡ (among xs c || among ys c)
among_append [] ys c = refl
among_append (x ∷ xs) ys c = ap (λ b. eqb c x || b) (among_append xs ys c) ∙ sym (or_assoc (eqb c x) (among xs c) (among ys c))

-- n is the meaning of the board when some numbers more are closed, which is the same
module _ (m n : Meaning) (same : n ≡ m) (kept : List ℕ) where
  abbrev cells_to : Meaning → ℕ → List ℕ
  cells_to b k = filter (λ x. ltb x b.cells) (take k kept)

  module _ (i : ℕ) (h : i < length kept) (before after : List ℕ) where
    one_more : (b : Bool) → ltb (get_or kept i 0) m.cells ≡ b → cells_to n (i + 1) ≡ cells_to m i ++ cond b (get_or kept i 0 ∷ []) []
    one_more b e =
        ap (λ b. cells_to b (i + 1)) same
        ∙ filter_more (λ x. ltb x m.cells) kept i 0 h
        ∙ ap (λ t. cells_to m i ++ cond t (get_or kept i 0 ∷ []) []) e

    pub closed_more : {X : Type 0} (A : X → Type 0) (r : Result X BoardRefusal) →
        Answer number_of (CloseFault m (get_or kept i 0)) A r → Closes (get_or kept i 0) before after r →
        ((c : ℕ) → is_closed before c ≡ among (cells_to m i) c) → (c : ℕ) → is_closed after c ≡ among (cells_to n (i + 1)) c
    closed_more A (Ok x) a closes inv c =
        let below : get_or kept i 0 < m.cells = ⊎_elim (λ l. l) (λ l. absurd (a.0 16 (refl, l))) (cases_lt (get_or kept i 0) m.cells) in
        closes c
        ∙ ap (λ b. eqb c (get_or kept i 0) || b) (inv c)
        ∙ or_swap (eqb c (get_or kept i 0)) (among (cells_to m i) c)
        ∙ sym (among_append (cells_to m i) (get_or kept i 0 ∷ []) c)
        ∙ ap (λ xs. among xs c) (sym (one_more true (lt-ltb _ _ below)))
    closed_more A (Err e) a closes inv c =
        ap (λ mask. is_closed mask c) closes
        ∙ inv c
        ∙ ap (λ xs. among xs c) (sym (one_more false (le-ltb _ _ a.0.1) ∙ append-nil (cells_to m i)))

  pub closed_all : (i : ℕ) → length kept ≤ i → (mask : List ℕ) → ((c : ℕ) → is_closed mask c ≡ among (cells_to n i) c) →
      (c : ℕ) → is_closed mask c ≡ among (filter (λ x. ltb x m.cells) kept) c
  closed_all i h mask inv c =
      inv c ∙ ap (λ b. among (cells_to b i) c) same ∙ ap (λ xs. among (filter (λ x. ltb x m.cells) xs) c) (take_all i kept h)
