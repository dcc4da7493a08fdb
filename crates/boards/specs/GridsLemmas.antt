-- The numbering of a grid's cells, both ways.
use Rattle.std.specs.Prelude.{◌≡◌, ℕ, ◌+◌, ◌-◌, ◌*◌, ◌/◌, ◌%◌, ◌<◌, ◌≤◌, Bool, true, length, Some, None, nat_lt}
use Rattle.std.proofs.Math.Path.{refl}
use Rattle.std.proofs.Common.{sym, ap, subst, ◌∙◌, ⊎_elim, mul_comm}
use native.Mathlib.Omega.{arith}
use Rattle.std.proofs.lemmas.Nat.{mul-add-lt, div-mul-add, mod-mul-add, div_below, mod_below, div-add-mod', mul-le}
use Rattle.std.proofs.lemmas.Bool.{ltb-true, lt-ltb, le-ltb, cases_lt}
use Rattle.std.proofs.lemmas.List.FromFn.{length-map-range_with_len}
use Rattle.boards.specs.declared.place.Place.{Place}
use Rattle.boards.specs.declared.place.Step.{Step}
use Rattle.boards.specs.declared.place.Step.TheVariants.{North, East, South, West, Down, Up}
use Rattle.boards.specs.Meaning.{when}
use Rattle.boards.specs.Places.{Leads, place_at, nowhere}
use Rattle.boards.specs.Grids.{cell_of, place_of, OnGrid, beside, grid_places}
use Rattle.boards.specs.Lists.{when_some, when_true, when_false}
use Rattle.boards.specs.Meanings.{made_in}

abbrev at_place : ℕ → ℕ → ℕ → Place
at_place l r c = record { layer = l; row = r; column = c }

same_place : {l r c l' r' c' : ℕ} → l ≡ l' → r ≡ r' → c ≡ c' → at_place l r c ≡ at_place l' r' c'
same_place e f g = cc

module _ (R C : ℕ) (some_row : 1 ≤ R) (some_column : 1 ≤ C) where
  pub some_point : 1 ≤ R * C
  some_point = omega (arith, mul-le 1 1 R C some_row some_column)

  -- a place of a layer is below the number of its points
  pub point_below : (r c : ℕ) → r < R → c < C → r * C + c < R * C
  point_below r c h k = omega (arith, mul-add-lt r C c R h k, mul_comm R C)

  pub place_on_grid : (L c : ℕ) → c < L * (R * C) → OnGrid L R C (place_of R C c)
  place_on_grid L c h =
      let p = some_point in
      let q = div_below c (R * C) L p h in
      let m = mod_below c (R * C) p in
      record {
        layer_from = omega arith;
        layer_to = omega arith;
        row_to = div_below (c % (R * C)) C R some_column m;
        column_to = mod_below (c % (R * C)) C some_column;
      }

  pub cell_of_place : (c : ℕ) → cell_of R C (place_of R C c) ≡ c
  cell_of_place c =
      let e : c / (R * C) + 1 - 1 ≡ c / (R * C) = omega arith in
      rw e (omega (arith, div-add-mod' c (R * C), div-add-mod' (c % (R * C)) C))

  module _ (L : ℕ) (p : Place) (on : OnGrid L R C p) where
    pub cell_below : cell_of R C p < L * (R * C)
    cell_below =
        let q = point_below p.row p.column on.row_to on.column_to in
        let f = on.layer_from in
        let t = on.layer_to in
        omega (arith, mul-add-lt (p.layer - 1) (R * C) (p.row * C + p.column) L (omega arith) q, mul_comm L (R * C))

    pub place_of_cell : place_of R C (cell_of R C p) ≡ p
    place_of_cell =
        let q = point_below p.row p.column on.row_to on.column_to in
        let f = on.layer_from in
        let point : cell_of R C p % (R * C) ≡ p.row * C + p.column = mod-mul-add (p.layer - 1) (R * C) (p.row * C + p.column) q in
        same_place
        (omega (arith, div-mul-add (p.layer - 1) (R * C) (p.row * C + p.column) q))
        (ap (λ n. n / C) point ∙ div-mul-add p.row C p.column on.column_to)
        (ap (λ n. n % C) point ∙ mod-mul-add p.row C p.column on.column_to)

-- a step to a place beside stays on the grid, and leads there
module _ (L R C : ℕ) (p q : Place) (on : OnGrid L R C p) where
  Led : Step → Place → Type 0
  Led s r = OnGrid L R C r × Leads s p r

  led : (s : Step) (t : Bool) (r : Place) → when t r ≡ Some q → (t ≡ true → Led s r) → Led s q
  led s t r e f = let h = when_some t r q e in subst (Led s) h.1 (f h.0)

  inside : (l r c : ℕ) → 1 ≤ l → l ≤ L → r < R → c < C → OnGrid L R C (at_place l r c)
  inside l r c f t x y = record { layer_from = f; layer_to = t; row_to = x; column_to = y }

  pub beside_leads : (s : Step) → beside L R C p s ≡ Some q → OnGrid L R C q × Leads s p q
  unfolding Led
  beside_leads North e = led North _ _ e (λ t. let h = ltb-true 0 p.row t in (inside _ _ _ on.layer_from on.layer_to (omega arith) on.column_to, (refl, omega arith, refl)))
  beside_leads East e = led East _ _ e (λ t. (inside _ _ _ on.layer_from on.layer_to on.row_to (ltb-true (p.column + 1) C t), (refl, refl, refl)))
  beside_leads South e = led South _ _ e (λ t. (inside _ _ _ on.layer_from on.layer_to (ltb-true (p.row + 1) R t) on.column_to, (refl, refl, refl)))
  beside_leads West e = led West _ _ e (λ t. let h = ltb-true 0 p.column t in (inside _ _ _ on.layer_from on.layer_to on.row_to (omega arith), (refl, refl, omega arith)))
  beside_leads Down e = led Down _ _ e (λ t. let h = ltb-true p.layer L t in (inside _ _ _ (omega arith) (omega arith) on.row_to on.column_to, (refl, refl, refl)))
  beside_leads Up e = led Up _ _ e (λ t. let h = ltb-true 1 p.layer t in (inside _ _ _ (omega arith) (omega arith) on.row_to on.column_to, (omega arith, refl, refl)))

module _ (L R C : ℕ) where
  pub grid_place_in : (c : ℕ) → c < L * (R * C) → place_at (grid_places L R C) c ≡ Some (place_of R C c)
  grid_place_in c h =
      when_true _ _ (lt-ltb c _ (simp length-map-range_with_len h)) ∙ ap Some (made_in (place_of R C) (L * (R * C)) nowhere c h)

  pub grid_place_out : (c : ℕ) → L * (R * C) ≤ c → place_at (grid_places L R C) c ≡ None
  grid_place_out c h = when_false _ _ (le-ltb c _ (simp length-map-range_with_len h))

  pub grid_placed : (c : ℕ) (p : Place) → place_at (grid_places L R C) c ≡ Some p → (c < L * (R * C)) × (place_of R C c ≡ p)
  grid_placed c p e =
      let h = when_some (nat_lt c (length (grid_places L R C))) _ p e in
      let k : c < L * (R * C) = simp length-map-range_with_len at (ltb-true c (length (grid_places L R C)) h.0) in
      (k, sym (made_in (place_of R C) (L * (R * C)) _ c k) ∙ h.1)

  pub grid_unplaced : (c : ℕ) → place_at (grid_places L R C) c ≡ None → L * (R * C) ≤ c
  grid_unplaced c e = ⊎_elim (λ h. no_place (sym e ∙ grid_place_in c h)) (λ h. h) (cases_lt c (L * (R * C)))
    where
      no_place : {X : Type 0} {p : Place} → None ≡ Some p → X
      no_place f = let z : ◌≡◌ {A = ℕ} 0 1 = cc in let n : ⊥ = omega arith in absurd n

  module _ (some_row : 1 ≤ R) (some_column : 1 ≤ C) (p : Place) where
    pub grid_finds : OnGrid L R C p → place_at (grid_places L R C) (cell_of R C p) ≡ Some p
    grid_finds on =
        grid_place_in (cell_of R C p) (cell_below R C some_row some_column L p on) ∙ ap Some (place_of_cell R C some_row some_column L p on)

    pub grid_found : (c : ℕ) → place_at (grid_places L R C) c ≡ Some p → OnGrid L R C p
    grid_found c e = let h = grid_placed c p e in subst (OnGrid L R C) h.1 (place_on_grid R C some_row some_column L c h.0)
