-- Lists in which nothing stands twice.
use Rattle.std.proofs.Common.{◌≡◌, ℕ, List, [], ◌∷◌, ◌++◌, map, refl, ap, ◌∙◌, inl, inr}
use Rattle.linkages.specs.Lists.{Mem, here, there, Distinct}
use Rattle.linkages.proofs.Members.{mem_at, mem_front, mem_map, mem_of_map}
use Rattle.drawings.proofs.Members.{mem_append_cases}
use Rattle.layouts.specs.Layouts.{Different}

pub distinct_from : (xs : List ℕ) → Different xs → Distinct xs
distinct_from [] d = tt
distinct_from (x ∷ xs) d = (d.0, distinct_from xs d.1)

pub distinct_to : (xs : List ℕ) → Distinct xs → Different xs
distinct_to [] d = tt
distinct_to (x ∷ xs) d = (d.0, distinct_to xs d.1)

pub different_left : {E : Type 0} (xs ys : List E) → Different (xs ++ ys) → Different xs
different_left [] ys d = tt
different_left (x ∷ xs) ys d = (λ k. d.0 (mem_front ys k), different_left xs ys d.1)

pub different_right : {E : Type 0} (xs ys : List E) → Different (xs ++ ys) → Different ys
different_right [] ys d = d
different_right (x ∷ xs) ys d = different_right xs ys d.1

pub different_append : {E : Type 0} (xs ys : List E) → Different xs → Different ys → ((c : E) → Mem c xs → Mem c ys → ⊥) → Different (xs ++ ys)
different_append [] ys d e apart = e
different_append (x ∷ xs) ys d e apart = (
  λ m. elim (mem_append_cases xs m) [ inl h ↦ d.0 h | inr h ↦ apart x (here refl) h ],
  different_append xs ys d.1 e (λ c h. apart c (there h)),
)

pub different_unmap : {E F : Type 0} (f : E → F) (xs : List E) → Different (map f xs) → Different xs
different_unmap f [] d = tt
different_unmap f (x ∷ xs) d = (λ k. d.0 (mem_map f k), different_unmap f xs d.1)

pub different_map : {E F : Type 0} (f : E → F) (xs : List E) → ((x y : E) → Mem x xs → Mem y xs → f x ≡ f y → x ≡ y) → Different xs → Different (map f xs)
different_map f [] one d = tt
different_map f (x ∷ xs) one d = (
  λ k. let t = mem_of_map f (f x) xs k in d.0 (mem_at (one x t.0 (here refl) (there t.1) t.2) t.1),
  different_map f xs (λ y z i j. one y z (there i) (there j)) d.1,
)

pub map_alike : {E F : Type 0} (f g : E → F) (xs : List E) → ((x : E) → Mem x xs → f x ≡ g x) → map f xs ≡ map g xs
map_alike f g [] e = refl
map_alike f g (x ∷ xs) e = ap (λ y. y ∷ map f xs) (e x (here refl)) ∙ ap (λ ys. g x ∷ ys) (map_alike f g xs (λ y m. e y (there m)))

pub map_back : {E F : Type 0} (g : F → E) (f : E → F) (xs : List E) → ((x : E) → Mem x xs → g (f x) ≡ x) → map g (map f xs) ≡ xs
map_back g f [] e = refl
map_back g f (x ∷ xs) e = ap (λ y. y ∷ map g (map f xs)) (e x (here refl)) ∙ ap (λ ys. x ∷ ys) (map_back g f xs (λ y m. e y (there m)))
