-- Members of lists: decided, removed, kept by a test, mapped.
use Rattle.std.proofs.Common.{◌≡◌, ℕ, suc, ◌<◌, ◌≤◌, Bool, true, false, cond, ◌⊎◌, List, [], ◌∷◌, ◌++◌, map, length, filter, sym, refl, ap, ◌∙◌, subst, inl, inr, arith}
use native.Mathlib.Decide.{ℕ_discrete}
use Rattle.linkages.specs.Lists.{Mem, here, there, Within, Distinct, Meets, Disjoint}

pub mem_none : {E : Type 0} {c : E} → Mem c [] → ⊥
mem_none k = elim k [ ]

pub mem_cases : {E : Type 0} {c x : E} {xs : List E} → Mem c (x ∷ xs) → (c ≡ x) ⊎ Mem c xs
mem_cases (here e) = inl e
mem_cases (there k) = inr k

pub mem_one : {E : Type 0} {c x : E} → Mem c (x ∷ []) → c ≡ x
mem_one k = elim (mem_cases k) [ inl e ↦ e | inr h ↦ absurd (mem_none h) ]

pub mem_at : {E : Type 0} {c d : E} {xs : List E} → c ≡ d → Mem d xs → Mem c xs
mem_at e (here f) = here (e ∙ f)
mem_at e (there k) = there (mem_at e k)

-- what holds of the first and of the rest holds of each
pub mem_each : {E : Type 0} {x : E} {xs : List E} (P : E → Type 0) → P x → ((c : E) → Mem c xs → P c) → (c : E) → Mem c (x ∷ xs) → P c
mem_each P h k c (here e) = subst P (sym e) h
mem_each P h k c (there i) = k c i

pub meets_more : {X X' xs xs' : List ℕ} → Within X X' → Within xs xs' → Meets X xs → Meets X' xs'
meets_more w v h = record { cell = h.cell; of = w h.cell h.of; on = v h.cell h.on }

pub mem_front : {A : Type 0} {c : A} {xs : List A} (ys : List A) → Mem c xs → Mem c (xs ++ ys)
mem_front ys (here e) = here e
mem_front ys (there k) = there (mem_front ys k)

pub distinct_front : (xs ys : List ℕ) → Distinct (xs ++ ys) → Distinct xs
distinct_front [] ys d = tt
distinct_front (x ∷ xs) ys d = (λ k. d.0 (mem_front ys k), distinct_front xs ys d.1)

-- ---- decided

pub dec_mem : (c : ℕ) (xs : List ℕ) → Dec (Mem c xs)
dec_mem c [] = no mem_none
dec_mem c (x ∷ xs) = try (ℕ_discrete c x) (dec_mem c xs)
  where
    try : Dec (c ≡ x) → Dec (Mem c xs) → Dec (Mem c (x ∷ xs))
    try (yes e) d = yes (here e)
    try (no n) (yes k) = yes (there k)
    try (no n) (no k) = no (λ h. elim (mem_cases h) [ inl e ↦ n e | inr i ↦ k i ])

pub dec_meets : (X xs : List ℕ) → Dec (Meets X xs)
dec_meets [] xs = no (λ h. mem_none h.of)
dec_meets (x ∷ X) xs = try (dec_mem x xs) (dec_meets X xs)
  where
    neither : (Mem x xs → ⊥) → (Meets X xs → ⊥) → Meets (x ∷ X) xs → ⊥
    neither n k h =
        elim (mem_cases h.of) [ inl e ↦ n (mem_at (sym e) h.on) | inr i ↦ k (record { cell = h.cell; of = i; on = h.on }) ]

    try : Dec (Mem x xs) → Dec (Meets X xs) → Dec (Meets (x ∷ X) xs)
    try (yes k) d = yes (record { cell = x; of = here refl; on = k })
    try (no n) (yes h) = yes (meets_more (λ c k. there k) (λ c k. k) h)
    try (no n) (no k) = no (neither n k)

-- one of the lists that holds t, or none does
pub held_or_not : (xss : List (List ℕ)) (t : ℕ) → ((xs : List ℕ) × Mem xs xss × Mem t xs) ⊎ ((xs : List ℕ) → Mem xs xss → Mem t xs → ⊥)
held_or_not [] t = inr (λ xs k. absurd (mem_none k))
held_or_not (ys ∷ xss) t = go (dec_mem t ys) (held_or_not xss t)
  where
    go : Dec (Mem t ys) → ((xs : List ℕ) × Mem xs xss × Mem t xs) ⊎ ((xs : List ℕ) → Mem xs xss → Mem t xs → ⊥) →
        ((xs : List ℕ) × Mem xs (ys ∷ xss) × Mem t xs) ⊎ ((xs : List ℕ) → Mem xs (ys ∷ xss) → Mem t xs → ⊥)
    go (yes k) r = inl (ys, here refl, k)
    go (no n) (inl s) = inl (s.0, there s.1, s.2)
    go (no n) (inr k) = inr (mem_each (λ xs. Mem t xs → ⊥) n k)

-- ---- removed

drop_if : {P : Type 0} → Dec P → ℕ → List ℕ → List ℕ
drop_if (yes e) x xs = xs
drop_if (no n) x xs = x ∷ xs

-- the list without each y
pub without : ℕ → List ℕ → List ℕ
without y [] = []
without y (x ∷ xs) = drop_if (ℕ_discrete x y) x (without y xs)

pub mem_without : {y c : ℕ} (xs : List ℕ) → Mem c xs → (c ≡ y → ⊥) → Mem c (without y xs)
unfolding without drop_if
mem_without [] k n = absurd (mem_none k)
mem_without {y} {c} (x ∷ xs) k n = go (ℕ_discrete x y) (mem_cases k) (λ h. mem_without xs h n)
  where
    go : (d : Dec (x ≡ y)) → (c ≡ x) ⊎ Mem c xs → (Mem c xs → Mem c (without y xs)) → Mem c (drop_if d x (without y xs))
    go (yes e) (inl f) k = absurd (n (f ∙ e))
    go (yes e) (inr h) k = k h
    go (no e) (inl f) k = here f
    go (no e) (inr h) k = there (k h)

pub mem_of_without : (y c : ℕ) (xs : List ℕ) → Mem c (without y xs) → Mem c xs × (c ≡ y → ⊥)
unfolding without drop_if
mem_of_without y c [] k = absurd (mem_none k)
mem_of_without y c (x ∷ xs) k = go (ℕ_discrete x y) k (mem_of_without y c xs)
  where
    go : (d : Dec (x ≡ y)) → Mem c (drop_if d x (without y xs)) → (Mem c (without y xs) → Mem c xs × (c ≡ y → ⊥)) →
        Mem c (x ∷ xs) × (c ≡ y → ⊥)
    go (yes e) h k = (there (k h).0, (k h).1)
    go (no e) (here f) k = (here f, λ g. e (sym f ∙ g))
    go (no e) (there h) k = (there (k h).0, (k h).1)

pub length_without_le : (y : ℕ) (xs : List ℕ) → length (without y xs) ≤ length xs
unfolding without drop_if
length_without_le y [] = omega arith
length_without_le y (x ∷ xs) = go (ℕ_discrete x y) (length_without_le y xs)
  where
    go : (d : Dec (x ≡ y)) → length (without y xs) ≤ length xs → length (drop_if d x (without y xs)) ≤ suc (length xs)
    go (yes e) h = omega arith
    go (no e) h = omega arith

pub length_without : {y : ℕ} (xs : List ℕ) → Mem y xs → length (without y xs) < length xs
unfolding without drop_if
length_without [] k = absurd (mem_none k)
length_without {y} (x ∷ xs) k = go (ℕ_discrete x y) (mem_cases k) (length_without_le y xs) (length_without xs)
  where
    go : (d : Dec (x ≡ y)) → (y ≡ x) ⊎ Mem y xs → length (without y xs) ≤ length xs →
        (Mem y xs → length (without y xs) < length xs) → length (drop_if d x (without y xs)) < suc (length xs)
    go (yes e) c h k = omega arith
    go (no e) (inl f) h k = absurd (e (sym f))
    go (no e) (inr f) h k = let j = k f in omega arith

pub distinct_without : (y : ℕ) (xs : List ℕ) → Distinct xs → Distinct (without y xs)
unfolding without drop_if
distinct_without y [] d = tt
distinct_without y (x ∷ xs) d = go (ℕ_discrete x y) (distinct_without y xs d.1)
  where
    go : (e : Dec (x ≡ y)) → Distinct (without y xs) → Distinct (drop_if e x (without y xs))
    go (yes e) h = h
    go (no e) h = (λ k. d.0 (mem_of_without y x xs k).0, h)

length_without_absent : (y : ℕ) (xs : List ℕ) → (Mem y xs → ⊥) → length xs ≤ length (without y xs)
unfolding without drop_if
length_without_absent y [] n = omega arith
length_without_absent y (x ∷ xs) n = go (ℕ_discrete x y) (length_without_absent y xs (λ k. n (there k)))
  where
    go : (d : Dec (x ≡ y)) → length xs ≤ length (without y xs) → suc (length xs) ≤ length (drop_if d x (without y xs))
    go (yes e) h = absurd (n (here (sym e)))
    go (no e) h = omega arith

-- a list without repeats loses at most one
pub length_without_ge : (y : ℕ) (xs : List ℕ) → Distinct xs → length xs ≤ suc (length (without y xs))
unfolding without drop_if
length_without_ge y [] d = omega arith
length_without_ge y (x ∷ xs) d = go (ℕ_discrete x y) (length_without_ge y xs d.1)
  where
    go : (e : Dec (x ≡ y)) → length xs ≤ suc (length (without y xs)) → suc (length xs) ≤ suc (length (drop_if e x (without y xs)))
    go (yes e) h = let k = length_without_absent y xs (λ k. d.0 (mem_at e k)) in omega arith
    go (no e) h = omega arith

-- ---- kept by a test

pub mem_kept : {E : Type 0} (r : E → Bool) {c : E} {xs : List E} → Mem c xs → r c ≡ true → Mem c (filter r xs)
mem_kept r (here e) p = rw (ap r (sym e) ∙ p) (here e)
mem_kept {E} r {c} (there {x = x} {xs = xs} k) p = go (r x) (mem_kept r k p)
  where
    go : (b : Bool) → Mem c (filter r xs) → Mem c (cond b (x ∷ filter r xs) (filter r xs))
    go true h = there h
    go false h = h

pub mem_of_kept : {E : Type 0} (r : E → Bool) (c : E) (xs : List E) → Mem c (filter r xs) → Mem c xs × (r c ≡ true)
mem_of_kept r c [] k = absurd (mem_none k)
mem_of_kept {E} r c (x ∷ xs) k = go (r x) refl k (mem_of_kept r c xs)
  where
    go : (b : Bool) → r x ≡ b → Mem c (cond b (x ∷ filter r xs) (filter r xs)) →
        (Mem c (filter r xs) → Mem c xs × (r c ≡ true)) → Mem c (x ∷ xs) × (r c ≡ true)
    go true q (here e) k = (here e, ap r e ∙ q)
    go true q (there h) k = (there (k h).0, (k h).1)
    go false q h k = (there (k h).0, (k h).1)

pub distinct_kept : (r : ℕ → Bool) (xs : List ℕ) → Distinct xs → Distinct (filter r xs)
distinct_kept r [] d = tt
distinct_kept r (x ∷ xs) d = go (r x) (distinct_kept r xs d.1)
  where
    go : (b : Bool) → Distinct (filter r xs) → Distinct (cond b (x ∷ filter r xs) (filter r xs))
    go true h = (λ k. d.0 (mem_of_kept r x xs k).0, h)
    go false h = h

pub disjoint_kept : (r : List ℕ → Bool) (xss : List (List ℕ)) → Disjoint xss → Disjoint (filter r xss)
disjoint_kept r [] d = tt
disjoint_kept r (xs ∷ xss) d = go (r xs) (disjoint_kept r xss d.1)
  where
    go : (b : Bool) → Disjoint (filter r xss) → Disjoint (cond b (xs ∷ filter r xss) (filter r xss))
    go true h = (λ ys c k. d.0 ys c (mem_of_kept r ys xss k).0, h)
    go false h = h

pub length_kept_map : {E F : Type 0} (f : E → F) (r : F → Bool) (xs : List E) →
    length (filter r (map f xs)) ≡ length (filter (λ x. r (f x)) xs)
length_kept_map f r [] = refl
length_kept_map {E} {F} f r (x ∷ xs) = go (r (f x)) (length_kept_map f r xs)
  where
    go : (b : Bool) → length (filter r (map f xs)) ≡ length (filter (λ x. r (f x)) xs) →
        length (cond b (f x ∷ filter r (map f xs)) (filter r (map f xs))) ≡
        length (cond b (x ∷ filter (λ x. r (f x)) xs) (filter (λ x. r (f x)) xs))
    go true h = ap suc h
    go false h = h

-- ---- mapped

pub mem_map : {E F : Type 0} (f : E → F) {c : E} {xs : List E} → Mem c xs → Mem (f c) (map f xs)
mem_map f (here e) = here (ap f e)
mem_map f (there k) = there (mem_map f k)

pub mem_of_map : {E F : Type 0} (f : E → F) (c : F) (xs : List E) → Mem c (map f xs) → (x : E) × Mem x xs × (c ≡ f x)
mem_of_map f c [] k = absurd (mem_none k)
mem_of_map f c (x ∷ xs) (here e) = (x, here refl, e)
mem_of_map f c (x ∷ xs) (there k) = let t = mem_of_map f c xs k in (t.0, there t.1, t.2)

-- one cell picked from each of disjoint lists
pub distinct_picks : (f : List ℕ → ℕ) (xss : List (List ℕ)) → Disjoint xss → ((xs : List ℕ) → Mem xs xss → Mem (f xs) xs) →
    Distinct (map f xss)
distinct_picks f [] d on = tt
distinct_picks f (xs ∷ xss) d on = (apart, distinct_picks f xss d.1 (λ ys k. on ys (there k)))
  where
    apart : Mem (f xs) (map f xss) → ⊥
    apart k = let t = mem_of_map f (f xs) xss k in d.0 t.0 (f xs) t.1 (on xs (here refl)) (mem_at t.2 (on t.0 (there t.1)))

-- two of disjoint lists that share a cell are one
pub same_list : (xss : List (List ℕ)) {xs ys : List ℕ} {c : ℕ} → Disjoint xss → Mem xs xss → Mem ys xss → Mem c xs → Mem c ys → xs ≡ ys
same_list [] d k l i j = absurd (mem_none k)
same_list (zs ∷ xss) d (here e) (here f) i j = e ∙ sym f
same_list (zs ∷ xss) {ys = ys} {c = c} d (here e) (there l) i j = absurd (d.0 ys c l (subst (Mem c) e i) j)
same_list (zs ∷ xss) {xs = xs} {c = c} d (there k) (here f) i j = absurd (d.0 xs c k (subst (Mem c) f j) i)
same_list (zs ∷ xss) d (there k) (there l) i j = same_list xss d.1 k l i j
