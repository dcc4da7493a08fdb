-- Lists of cells, read as sets or as courses.
use Rattle.std.specs.Prelude.{◌≡◌, ℕ, List, [], ◌∷◌, ◌++◌}

-- c stands in the list
pub data Mem {E : Type 0} (c : E) : List E → Type 0 where
  here : {x : E} {xs : List E} → c ≡ x → Mem c (x ∷ xs)
  there : {x : E} {xs : List E} → Mem c xs → Mem c (x ∷ xs)

-- each cell of the first stands in the second
abbrev pub Within : List ℕ → List ℕ → Type 0
Within xs ys = (c : ℕ) → Mem c xs → Mem c ys

-- the two have the same members, in any order and however often
abbrev pub Same : List ℕ → List ℕ → Type 0
Same xs ys = Within xs ys × Within ys xs

-- no cell stands twice
abbrev pub Distinct : List ℕ → Type 0
Distinct [] = Unit {0}
Distinct (x ∷ xs) = (Mem x xs → ⊥) × Distinct xs

-- xs holds a cell of X
pub record Meets (X xs : List ℕ) : Type 0 where
  pub cell : ℕ
  pub of : Mem cell X
  pub on : Mem cell xs

-- no cell is on two of the lists
abbrev pub Disjoint : List (List ℕ) → Type 0
Disjoint [] = Unit {0}
Disjoint (xs ∷ xss) = ((ys : List ℕ) (c : ℕ) → Mem ys xss → Mem c xs → Mem c ys → ⊥) × Disjoint xss

-- t comes right after u
pub data Next (u t : ℕ) : List ℕ → Type 0 where
  begins : {x y : ℕ} {xs : List ℕ} → u ≡ x → t ≡ y → Next u t (x ∷ y ∷ xs)
  goes_on : {x : ℕ} {xs : List ℕ} → Next u t xs → Next u t (x ∷ xs)

-- ys is the front part of xs, which may be all of it
abbrev pub Front : List ℕ → List ℕ → Type 0
Front ys xs = (rest : List ℕ) × (ys ++ rest ≡ xs)
