-- The pigeonhole: disjoint lists that all meet some cells are at most as many as the cells.
use Rattle.std.proofs.Common.{◌≡◌, ℕ, ◌≤◌, ◌⊎◌, List, [], ◌∷◌, map, length, sym, refl, ◌∙◌, subst, inl, inr, arith}
use native.Mathlib.Decide.{ℕ_discrete}
use lib.ListN.{length-map}
use Rattle.linkages.specs.Lists.{Mem, here, there, Within, Same, Distinct, Meets, Disjoint}
use Rattle.linkages.specs.Fences.{Pigeonhole}
use Rattle.linkages.proofs.Members.{mem_none, mem_one, mem_at, mem_each, dec_meets, without, mem_without, length_without}
use Rattle.linkages.proofs.Members.{mem_of_map, same_list}

meets_without : {X xs : List ℕ} (y : ℕ) → Meets X xs → (Mem y xs → ⊥) → Meets (without y X) xs
meets_without {X} y h n = record { cell = h.cell; of = mem_without X h.of (λ e. n (mem_at (sym e) h.on)); on = h.on }

pub at_most : (X : List ℕ) (xss : List (List ℕ)) → Disjoint xss → ((xs : List ℕ) → Mem xs xss → Meets X xs) → length xss ≤ length X
at_most X [] d each = omega arith
at_most X (xs ∷ xss) d each =
    let h = each xs (here refl) in
    let rest : (ys : List ℕ) → Mem ys xss → Meets (without h.cell X) ys =
    λ ys k. meets_without h.cell (each ys (there k)) (d.0 ys h.cell k h.on) in
    let k = at_most (without h.cell X) xss d.1 rest in
    let l = length_without X h.of in
    omega arith

-- each list meets the cells, or one does not
each_or_one : (X : List ℕ) (xss : List (List ℕ)) →
    ((xs : List ℕ) → Mem xs xss → Meets X xs) ⊎ ((xs : List ℕ) × Mem xs xss × (Meets X xs → ⊥))
each_or_one X [] = inl (λ xs k. absurd (mem_none k))
each_or_one X (ys ∷ xss) = go (dec_meets X ys) (each_or_one X xss)
  where
    go : Dec (Meets X ys) → ((xs : List ℕ) → Mem xs xss → Meets X xs) ⊎ ((xs : List ℕ) × Mem xs xss × (Meets X xs → ⊥)) →
        ((xs : List ℕ) → Mem xs (ys ∷ xss) → Meets X xs) ⊎ ((xs : List ℕ) × Mem xs (ys ∷ xss) × (Meets X xs → ⊥))
    go (no n) r = inr (ys, here refl, n)
    go (yes h) (inl k) = inl (mem_each (Meets X) h k)
    go (yes h) (inr t) = inr (t.0, there t.1, t.2)

pub pigeonhole : Pigeonhole
pigeonhole X xss d l =
    elim (each_or_one X xss) [ inl each ↦ absurd (let k = at_most X xss d each in omega arith) | inr t ↦ t ]

-- disjoint lists that all meet X, which has no more cells than there are lists
pub record Tight (X : List ℕ) (xss : List (List ℕ)) : Type 0 where
  pub apart : Disjoint xss
  pub each : (xs : List ℕ) → Mem xs xss → Meets X xs
  pub fits : length X ≤ length xss

tight_needs : {X : List ℕ} {xss : List (List ℕ)} {y : ℕ} → Tight X xss → Mem y X →
    ((xs : List ℕ) → Mem xs xss → Meets (without y X) xs) → ⊥
tight_needs {X} {xss} {y} t k each =
    let i = at_most (without y X) xss t.apart each in
    let l = length_without X k in
    let f = t.fits in
    omega arith

-- a list that meets X has y on it, or meets the rest of X
elsewhere : {X xs : List ℕ} (y : ℕ) → Meets X xs → Mem y xs ⊎ Meets (without y X) xs
elsewhere {X} {xs} y h = go (ℕ_discrete h.cell y)
  where
    go : Dec (h.cell ≡ y) → Mem y xs ⊎ Meets (without y X) xs
    go (yes e) = inl (mem_at (sym e) h.on)
    go (no n) = inr (record { cell = h.cell; of = mem_without X h.of n; on = h.on })

-- each cell of X is on one of the lists
pub tight_on : {X : List ℕ} {xss : List (List ℕ)} {y : ℕ} → Tight X xss → Mem y X → (xs : List ℕ) × Mem xs xss × Mem y xs
tight_on {X} {xss} {y} t k = go (each_or_one (without y X) xss)
  where
    go : ((xs : List ℕ) → Mem xs xss → Meets (without y X) xs) ⊎ ((xs : List ℕ) × Mem xs xss × (Meets (without y X) xs → ⊥)) →
        (xs : List ℕ) × Mem xs xss × Mem y xs
    go (inl each) = absurd (tight_needs t k each)
    go (inr s) = (s.0, s.1, elim (elsewhere y (t.each s.0 s.1)) [ inl h ↦ h | inr h ↦ absurd (s.2 h) ])

-- and no list has two of them
pub tight_one : {X : List ℕ} {xss : List (List ℕ)} {xs : List ℕ} {x y : ℕ} → Tight X xss → Mem xs xss →
    Mem x X → Mem x xs → Mem y X → Mem y xs → x ≡ y
tight_one {X} {xss} {xs} {x} {y} t k x-in x-on y-in y-on = go (ℕ_discrete x y)
  where
    others : (x ≡ y → ⊥) → (ys : List ℕ) → Mem ys xss → Meets (without y X) ys
    others n ys l = elim (elsewhere y (t.each ys l)) [
      | inl h ↦ subst (Meets (without y X)) (same_list xss t.apart k l y-on h) (record { cell = x; of = mem_without X x-in n; on = x-on })
      | inr h ↦ h
    ]

    go : Dec (x ≡ y) → x ≡ y
    go (yes e) = e
    go (no n) = absurd (tight_needs t y-in (others n))

-- lists by their pads, no cell on two of them
abbrev pub Apart : List ℕ → (ℕ → List ℕ) → Type 0
Apart A path = (q r c : ℕ) → Mem q A → Mem r A → Mem c (path q) → Mem c (path r) → q ≡ r

pub disjoint_paths : (A : List ℕ) (path : ℕ → List ℕ) → Distinct A → Apart A path → Disjoint (map path A)
disjoint_paths [] path d apart = tt
disjoint_paths (a ∷ A) path d apart = (first, disjoint_paths A path d.1 (λ q r c k l. apart q r c (there k) (there l)))
  where
    first : (ys : List ℕ) (c : ℕ) → Mem ys (map path A) → Mem c (path a) → Mem c ys → ⊥
    first ys c k i j =
        let t = mem_of_map path ys A k in
        d.0 (mem_at (apart a t.0 c (here refl) (there t.1) i (subst (Mem c) t.2 j)) t.1)

pub at_most_pads : (A X : List ℕ) (path : ℕ → List ℕ) → Distinct A → Apart A path → ((q : ℕ) → Mem q A → Meets X (path q)) →
    length A ≤ length X
at_most_pads A X path d apart each =
    let h : (xs : List ℕ) → Mem xs (map path A) → Meets X xs =
    λ xs k. let t = mem_of_map path xs A k in subst (Meets X) (sym t.2) (each t.0 t.1) in
    let k = at_most X (map path A) (disjoint_paths A path d apart) h in
    let l = length-map A path in
    omega arith

-- a list without repeats within another is no longer
pub within_length : (A B : List ℕ) → Distinct A → Within A B → length A ≤ length B
within_length A B d w =
    at_most_pads A B (λ q. q ∷ []) d (λ q r c _ _ k l. sym (mem_one k) ∙ mem_one l) (λ q k. record { cell = q; of = w q k; on = here refl })

pub same_length : {A B : List ℕ} → Distinct A → Distinct B → Same A B → length A ≡ length B
same_length {A} {B} d e s = let h = within_length A B d s.0 in let k = within_length B A e s.1 in omega arith
