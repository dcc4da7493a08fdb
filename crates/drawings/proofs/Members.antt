-- Lists joined, and what filters keep.
use Rattle.std.proofs.Common.{◌≡◌, ℕ, ◌≤◌, Bool, true, false, cond, ◌&&◌, ◌⊎◌, List, [], ◌∷◌, ◌++◌, length, filter, refl, ap, ◌∙◌, subst, inl, inr, arith}
use Rattle.std.specs.List.{flat_map}
use Rattle.linkages.specs.Lists.{Mem, here, there, Distinct, Within}
use Rattle.linkages.proofs.Members.{mem_none, mem_cases, mem_at, mem_front, dec_mem}
use Rattle.linkages.proofs.Pigeons.{within_length}

pub mem_append_right : {E : Type 0} {c : E} (xs : List E) {ys : List E} → Mem c ys → Mem c (xs ++ ys)
mem_append_right [] m = m
mem_append_right (x ∷ xs) m = there (mem_append_right xs m)

pub mem_append_cases : {E : Type 0} {c : E} (xs : List E) {ys : List E} → Mem c (xs ++ ys) → Mem c xs ⊎ Mem c ys
mem_append_cases [] m = inr m
mem_append_cases (x ∷ xs) (here e) = inl (here e)
mem_append_cases (x ∷ xs) (there m) = elim (mem_append_cases xs m) [ inl h ↦ inl (there h) | inr h ↦ inr h ]

pub distinct_append : (xs ys : List ℕ) → Distinct xs → Distinct ys → ((c : ℕ) → Mem c xs → Mem c ys → ⊥) → Distinct (xs ++ ys)
distinct_append [] ys d e apart = e
distinct_append (x ∷ xs) ys d e apart = (
  λ m. elim (mem_append_cases xs m) [ inl h ↦ d.0 h | inr h ↦ apart x (here refl) h ],
  distinct_append xs ys d.1 e (λ c h. apart c (there h)),
)

-- tests that agree on a list keep the same of it
pub same_kept : {X : Type 0} (p q : X → Bool) (xs : List X) → ((x : X) → Mem x xs → p x ≡ q x) → filter p xs ≡ filter q xs
same_kept p q [] f = refl
same_kept p q (x ∷ xs) f = rw (f x (here refl), same_kept p q xs (λ y m. f y (there m)))

pub kept_twice : {X : Type 0} (p q : X → Bool) (xs : List X) → filter p (filter q xs) ≡ filter (λ x. q x && p x) xs
kept_twice p q [] = refl
kept_twice p q (x ∷ xs) = go (q x) (kept_twice p q xs)
  where
    go : (b : Bool) → filter p (filter q xs) ≡ filter (λ y. q y && p y) xs →
        filter p (cond b (x ∷ filter q xs) (filter q xs)) ≡ cond (b && p x) (x ∷ filter (λ y. q y && p y) xs) (filter (λ y. q y && p y) xs)
    go true rec = ap (λ zs. cond (p x) (x ∷ zs) zs) rec
    go false rec = rec

-- different cells within a list, as many as it has, are all of it
pub within_back : (xs ys : List ℕ) → Distinct xs → Within xs ys → length ys ≤ length xs → Within ys xs
within_back xs ys d w le c m = go (dec_mem c xs)
  where
    go : Dec (Mem c xs) → Mem c xs
    go (yes h) = h
    go (no n) =
        let long = within_length (c ∷ xs) ys (n, d) (λ x k. elim (mem_cases k) [ inl e ↦ mem_at e m | inr h ↦ w x h ]) in
        let z : ⊥ = omega arith in absurd z

-- lists joined
pub joined_cases : (F : ℕ → List ℕ) (c : ℕ) (xs : List ℕ) → Mem c (flat_map F xs) → (x : ℕ) × Mem x xs × Mem c (F x)
joined_cases F c [] m = absurd (mem_none m)
joined_cases F c (x ∷ xs) m =
    elim (mem_append_cases (F x) m) [ inl h ↦ (x, here refl, h) | inr h ↦ (let k = joined_cases F c xs h in (k.0, there k.1, k.2)) ]

pub mem_joined : (F : ℕ → List ℕ) (c x : ℕ) (xs : List ℕ) → Mem x xs → Mem c (F x) → Mem c (flat_map F xs)
mem_joined F c x [] m h = absurd (mem_none m)
mem_joined F c x (y ∷ ys) (here e) h = mem_front (flat_map F ys) (subst (λ z. Mem c (F z)) e h)
mem_joined F c x (y ∷ ys) (there m) h = mem_append_right (F y) (mem_joined F c x ys m h)

pub distinct_joined : (F : ℕ → List ℕ) (xs : List ℕ) → Distinct xs → ((x : ℕ) → Mem x xs → Distinct (F x)) →
    ((x y c : ℕ) → Mem x xs → Mem y xs → Mem c (F x) → Mem c (F y) → x ≡ y) → Distinct (flat_map F xs)
distinct_joined F [] d each apart = tt
distinct_joined F (x ∷ xs) d each apart =
    distinct_append (F x) (flat_map F xs) (each x (here refl))
    (distinct_joined F xs d.1 (λ y m. each y (there m)) (λ y z c m n. apart y z c (there m) (there n)))
    (λ c m n. let k = joined_cases F c xs n in d.0 (mem_at (apart x k.0 c (here refl) (there k.1) m k.2) k.1))

pub kept_none : (p : ℕ → Bool) (xs : List ℕ) → ((x : ℕ) → p x ≡ false) → filter p xs ≡ []
kept_none p [] f = refl
kept_none p (x ∷ xs) f = ap (λ b. cond b (x ∷ filter p xs) (filter p xs)) (f x) ∙ kept_none p xs f
