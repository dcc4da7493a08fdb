-- The numbers that are there in a list of options: how many come before a place, and which one comes after so many.
use Rattle.std.specs.Prelude.{◌≡◌, ℕ, zero, suc, ◌+◌, ◌<◌, ◌≤◌, Bool, true, false, cond, List, [], ◌∷◌, map, length, get_or, take, Some, None, filter, Option, slice_index, slice_index_or, refl}
use Rattle.std.proofs.Common.{sym, ap, ◌∙◌, ⊎_elim, arith, add-one}
use Rattle.std.proofs.lemmas.List.{get_or_past}
use Rattle.std.proofs.lemmas.Bool.{cases_lt}
use Rattle.boards.specs.Meaning.{at, when}
use Rattle.boards.specs.Maps.{somes}
use Rattle.boards.specs.Lists.{at_in, at_some}

pub length_somes : (xs : List (Option ℕ)) → length (somes xs) ≤ length xs
length_somes [] = omega arith
length_somes (Some x ∷ xs) = omega (arith, length_somes xs)
length_somes (None ∷ xs) = omega (arith, length_somes xs)

-- each of the numbers that are there stands somewhere in the list
pub record Stands (xs : List (Option ℕ)) (x : ℕ) : Type 0 where
  pub place : ℕ
  pub below : place < length xs
  pub is : get_or xs place None ≡ Some x

later : {o : Option ℕ} {xs : List (Option ℕ)} {x : ℕ} → Stands xs x → Stands (o ∷ xs) x
later h = let b = h.below in record { place = suc h.place; below = omega arith; is = h.is }

pub somes_from : (xs : List (Option ℕ)) (j : ℕ) → j < length (somes xs) → Stands xs (slice_index (somes xs) j)
somes_from [] j h = let z : ⊥ = omega arith in absurd z
somes_from (Some x ∷ xs) zero h = record { place = 0; below = omega arith; is = refl }
somes_from (Some x ∷ xs) (suc j) h = later (somes_from xs j (omega arith))
somes_from (None ∷ xs) j h = later (somes_from xs j h)

no_some : {X : Type 0} {x : ℕ} → None ≡ Some x → X
no_some e = let z : ◌≡◌ {A = ℕ} 0 1 = cc in let n : ⊥ = omega arith in absurd n

-- what is there stands below the end
pub some_below : (xs : List (Option ℕ)) (i : ℕ) {x : ℕ} → slice_index_or xs i None ≡ Some x → i < length xs
some_below xs i e = ⊎_elim (λ h. h) (λ h. no_some (sym (get_or_past xs i None h) ∙ e)) (cases_lt i (length xs))

-- one more that is there, and one that is not
more : (xs : List (Option ℕ)) (i x : ℕ) → slice_index_or xs i None ≡ Some x → length (somes (take (suc i) xs)) ≡ length (somes (take i xs)) + 1
more [] i x e = no_some e
more (Some y ∷ xs) zero x e = refl
more (None ∷ xs) zero x e = no_some e
more (Some y ∷ xs) (suc i) x e = omega (arith, more xs i x e)
more (None ∷ xs) (suc i) x e = more xs i x e

same : (xs : List (Option ℕ)) (i : ℕ) → slice_index_or xs i None ≡ None → length (somes (take (suc i) xs)) ≡ length (somes (take i xs))
same [] zero e = refl
same [] (suc i) e = refl
same (Some y ∷ xs) zero e = no_some (sym e)
same (None ∷ xs) zero e = refl
same (Some y ∷ xs) (suc i) e = omega (arith, same xs i e)
same (None ∷ xs) (suc i) e = same xs i e

module _ (xs : List (Option ℕ)) (i : ℕ) where
  pub somes_more : (x : ℕ) → slice_index_or xs i None ≡ Some x → length (somes (take (i + 1) xs)) ≡ length (somes (take i xs)) + 1
  somes_more x e = rw (add-one i) (more xs i x e)

  pub somes_same : get_or xs i None ≡ None → length (somes (take (i + 1) xs)) ≡ length (somes (take i xs))
  somes_same e = rw add-one (same xs i e)

-- the one at a place, counted by those before it
pub at_somes : (xs : List (Option ℕ)) (i j x : ℕ) → slice_index_or xs i None ≡ Some x → length (somes (take i xs)) ≡ j → at (somes xs) j ≡ Some x
at_somes [] i j x e k = no_some e
at_somes (Some y ∷ xs) zero zero x e k = at_in (y ∷ somes xs) 0 (omega arith) ∙ e
at_somes (Some y ∷ xs) zero (suc j) x e k = let z : ⊥ = omega arith in absurd z
at_somes (None ∷ xs) zero j x e k = no_some e
at_somes (Some y ∷ xs) (suc i) zero x e k = let z : ⊥ = omega arith in absurd z
at_somes (Some y ∷ xs) (suc i) (suc j) x e k =
    let s = at_some (somes xs) j x (at_somes xs i j x e (omega arith)) in
    at_in (y ∷ somes xs) (suc j) (omega arith) ∙ ap Some s.1
at_somes (None ∷ xs) (suc i) j x e k = at_somes xs i j x e k

-- a filter keeps the numbers that it lets through
kept_go : (p : ℕ → Bool) (x : ℕ) (xs : List ℕ) (b : Bool) → filter p xs ≡ somes (map (λ y. when (p y) y) xs) →
    cond b (x ∷ filter p xs) (filter p xs) ≡ somes (when b x ∷ map (λ y. when (p y) y) xs)
kept_go p x xs true e = ap (λ ys. x ∷ ys) e
kept_go p x xs false e = e

pub kept_somes : (p : ℕ → Bool) (xs : List ℕ) → filter p xs ≡ somes (map (λ y. when (p y) y) xs)
kept_somes p [] = refl
kept_somes p (x ∷ xs) = kept_go p x xs (p x) (kept_somes p xs)
