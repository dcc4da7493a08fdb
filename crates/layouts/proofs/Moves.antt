-- The outlets of a field, as moves from place to place.
use Rattle.std.proofs.Common.{◌≡◌, ℕ, ◌+◌, ◌*◌, ◌<◌, Bool, true, false, not, ◌&&◌, ◌||◌, List, [], ◌∷◌, map, Some, None, Option, sym, refl, ap, ◌∙◌, subst, inl, inr, arith}
use Rattle.std.proofs.lemmas.Bool.{and_parts, not-true, lt-ltb}
use Rattle.boards.specs.declared.place.Place.{Place}
use Rattle.boards.specs.declared.place.Step.{Step}
use Rattle.boards.specs.declared.place.Step.TheVariants.{North, East, South, West, Down}
use Rattle.boards.specs.Meaning.{Meaning, when, outlets_of, pad_at, landing_at}
use Rattle.boards.specs.Places.{Leads}
use Rattle.boards.specs.Grids.{OnGrid, place_of, cell_of, beside}
use Rattle.boards.specs.Maps.{SidesAllowed, pad_point, landing_point, byte_at, pad_place, passes, way_to, way, somes}
use Rattle.boards.specs.Fields.{field, field_steps, field_landing}
use Rattle.boards.specs.Lists.{when_some, when_true}
use Rattle.boards.specs.Meanings.{made_in}
use Rattle.boards.specs.GridsLemmas.{place_on_grid, cell_below, place_of_cell, beside_leads}
use Rattle.linkages.specs.Lists.{Mem, here, there}
use Rattle.linkages.proofs.Members.{mem_none}
use Rattle.drawings.proofs.Said.{none_not_some, some_same}
use Rattle.layouts.specs.declared.wires.Point.{Point}
use Rattle.layouts.specs.Layouts.{Neighbours, on_layer}
use Rattle.layouts.specs.Readings.{point_of}

abbrev at_place : ℕ → ℕ → ℕ → Place
at_place l r c = record { layer = l; row = r; column = c }

same_place : {l r c l' r' c' : ℕ} → l ≡ l' → r ≡ r' → c ≡ c' → at_place l r c ≡ at_place l' r' c'
same_place e f g = cc

pub place_eq : (p q : Place) → p.layer ≡ q.layer → p.row ≡ q.row → p.column ≡ q.column → p ≡ q
place_eq p q e f g = same_place e f g

abbrev at_point : ℕ → ℕ → Point
at_point r c = record { row = r; column = c }

same_point : {r c r' c' : ℕ} → r ≡ r' → c ≡ c' → at_point r c ≡ at_point r' c'
same_point e f = cc

pub point_eq : (p q : Point) → p.row ≡ q.row → p.column ≡ q.column → p ≡ q
point_eq p q e f = same_point e f

-- a move leads to a neighbour on the same layer that holds no pad, or from layer 1 down to layer 2 at a pad point or a landing point
pub data Move (C : ℕ) (bytes : List ℕ) (p q : Place) : Type 0 where
  along : q.layer ≡ p.layer → Neighbours (point_of p) (point_of q) → pad_place C bytes q ≡ false → Move C bytes p q
  down : p.layer ≡ 1 → q ≡ on_layer 2 (point_of p) → (pad_point (byte_at C bytes p) || landing_point (byte_at C bytes p)) ≡ true → Move C bytes p q

-- ---- the numbers that are there

of_somes : (d : ℕ) (xs : List (Option ℕ)) → Mem d (somes xs) → Mem (Some d) xs
of_somes d [] k = absurd (mem_none k)
of_somes d (Some x ∷ xs) (here e) = here (ap Some e)
of_somes d (Some x ∷ xs) (there k) = there (of_somes d xs k)
of_somes d (None ∷ xs) k = there (of_somes d xs k)

to_somes : (d : ℕ) (xs : List (Option ℕ)) → Mem (Some d) xs → Mem d (somes xs)
to_somes d [] k = absurd (mem_none k)
to_somes d (Some x ∷ xs) (here e) = here (some_same refl e)
to_somes d (Some x ∷ xs) (there k) = there (to_somes d xs k)
to_somes d (None ∷ xs) (here e) = absurd (none_not_some (sym e))
to_somes d (None ∷ xs) (there k) = to_somes d xs k

module _ (R C : ℕ) (bytes : List ℕ) (sides : SidesAllowed R C) where
  abbrev pub board : Meaning
  board = field R C bytes

  outlets_are : (c : ℕ) → c < 2 * (R * C) → outlets_of board c ≡ somes (map (way 2 R C bytes (place_of R C c)) field_steps)
  outlets_are c h = made_in (λ c. somes (map (way 2 R C bytes (place_of R C c)) field_steps)) (2 * (R * C)) [] c h

  pub pad_is : (c : ℕ) → c < 2 * (R * C) → pad_at board c ≡ pad_place C bytes (place_of R C c)
  pad_is c h = made_in (λ c. pad_place C bytes (place_of R C c)) (2 * (R * C)) false c h

  pub landing_is : (c : ℕ) → c < 2 * (R * C) → landing_at board c ≡ field_landing C bytes (place_of R C c)
  landing_is c h = made_in (λ c. field_landing C bytes (place_of R C c)) (2 * (R * C)) false c h

  -- ---- an outlet is a move

  module _ (p : Place) (on : OnGrid 2 R C p) (d : ℕ) where
    Gone : Type 0
    Gone = (q : Place) × OnGrid 2 R C q × Move C bytes p q × (cell_of R C q ≡ d)

    goes_by : (s : Step) → ((q : Place) → OnGrid 2 R C q → Leads s p q → passes s (byte_at C bytes p) ≡ true → pad_place C bytes q ≡ false → Move C bytes p q) →
        (o : Option Place) → beside 2 R C p s ≡ o → way_to R C bytes p s o ≡ Some d → Gone
    unfolding Gone
    goes_by s f None e w = absurd (none_not_some w)
    goes_by s f (Some q) e w =
        let h = when_some (passes s (byte_at C bytes p) && not (pad_place C bytes q)) (cell_of R C q) d w in
        let t = and_parts (passes s (byte_at C bytes p)) (not (pad_place C bytes q)) h.0 in
        let l = beside_leads 2 R C p q on s e in
        (q, l.0, f q l.0 l.1 t.0 (not-true _ t.1), h.1)

    gone : Mem (Some d) (map (way 2 R C bytes p) field_steps) → Gone
    gone (here e) = goes_by North (λ q g l t n. along l.0 (inl (sym l.2, inl (sym l.1))) n) (beside 2 R C p North) refl (sym e)
    gone (there (here e)) = goes_by East (λ q g l t n. along l.0 (inr (sym l.1, inr l.2)) n) (beside 2 R C p East) refl (sym e)
    gone (there (there (here e))) = goes_by South (λ q g l t n. along l.0 (inl (sym l.2, inr l.1)) n) (beside 2 R C p South) refl (sym e)
    gone (there (there (there (here e)))) = goes_by West (λ q g l t n. along l.0 (inr (sym l.1, inl (sym l.2))) n) (beside 2 R C p West) refl (sym e)
    gone (there (there (there (there (here e))))) =
        goes_by Down
        (λ q g l t n.
        let a = on.layer_from in
        let b = g.layer_to in
        let x = l.0 in
        down (omega arith) (place_eq q (on_layer 2 (point_of p)) (omega arith) l.1 l.2) t)
        (beside 2 R C p Down) refl (sym e)
    gone (there (there (there (there (there k))))) = absurd (mem_none k)

  pub outlet_move : (c d : ℕ) → c < 2 * (R * C) → Mem d (outlets_of board c) → (d < 2 * (R * C)) × Move C bytes (place_of R C c) (place_of R C d)
  unfolding Gone
  outlet_move c d h k =
      let g = gone (place_of R C c) (place_on_grid R C sides.0 sides.2 2 c h) d (of_somes d _ (subst (Mem d) (outlets_are c h) k)) in
      let e : place_of R C d ≡ g.0 = ap (place_of R C) (sym g.3) ∙ place_of_cell R C sides.0 sides.2 2 g.0 g.1 in
      (subst (λ x. x < 2 * (R * C)) g.3 (cell_below R C sides.0 sides.2 2 g.0 g.1), subst (Move C bytes (place_of R C c)) (sym e) g.2)

  -- ---- a move is an outlet

  module _ (p q : Place) (on : OnGrid 2 R C p) (to : OnGrid 2 R C q) where
    way_is : (s : Step) → beside 2 R C p s ≡ Some q → passes s (byte_at C bytes p) ≡ true → pad_place C bytes q ≡ false → Some (cell_of R C q) ≡ way 2 R C bytes p s
    way_is s e t n = sym (ap (way_to R C bytes p s) e ∙ when_true _ _ (rw (t, n)))

    stands : {b : Bool} {r : Place} → b ≡ true → r ≡ q → when b r ≡ Some q
    stands {b} {r} e f = when_true b r e ∙ ap Some f

    moved : Move C bytes p q → Mem (Some (cell_of R C q)) (map (way 2 R C bytes p) field_steps)
    moved (along l (inl (c, inl r)) n) =
        here (way_is North (stands (lt-ltb 0 p.row (omega arith)) (place_eq _ q (sym l) (omega arith) c)) refl n)
    moved (along l (inl (c, inr r)) n) =
        let h = to.row_to in
        there (there (here (way_is South (stands (lt-ltb (p.row + 1) R (omega arith)) (place_eq _ q (sym l) (sym r) c)) refl n)))
    moved (along l (inr (r, inl c)) n) =
        there (there (there (here (way_is West (stands (lt-ltb 0 p.column (omega arith)) (place_eq _ q (sym l) r (omega arith))) refl n))))
    moved (along l (inr (r, inr c)) n) =
        let h = to.column_to in
        there (here (way_is East (stands (lt-ltb (p.column + 1) C (omega arith)) (place_eq _ q (sym l) r (sym c))) refl n))
    moved (down l e t) =
        there (there (there (there (here (way_is Down
        (stands (lt-ltb p.layer 2 (omega arith)) (place_eq _ _ (omega arith) refl refl ∙ sym e))
        t (ap (pad_place C bytes) e))))))

    pub move_outlet : Move C bytes p q → Mem (cell_of R C q) (outlets_of board (cell_of R C p))
    move_outlet m =
        let e = place_of_cell R C sides.0 sides.2 2 p on in
        subst (Mem (cell_of R C q)) (sym (outlets_are (cell_of R C p) (cell_below R C sides.0 sides.2 2 p on)))
        (to_somes (cell_of R C q) _ (subst (λ (r : Place). Mem (Some (cell_of R C q)) (map (way 2 R C bytes r) field_steps)) (sym e) (moved m)))
