-- Boards over maps are bounded, their outlets lie one step away, and none leads into a pad.
use Rattle.std.specs.Prelude.{◌≡◌, ℕ, ◌*◌, ◌<◌, ◌≤◌, Bool, true, false, not, ◌&&◌, List, map, length, Some, None, Option, slice_index, slice_index_or, refl}
use Rattle.std.proofs.Common.{sym, ap, ◌∙◌, subst, arith}
use Rattle.std.proofs.lemmas.List.{get_or-map, length-map}
use Rattle.std.proofs.lemmas.List.FromFn.{length-map-range_with_len}
use Rattle.std.proofs.lemmas.Nat.{mul-le}
use Rattle.std.proofs.lemmas.Bool.{and_parts, not-true}
use Rattle.boards.specs.declared.place.Place.{Place}
use Rattle.boards.specs.declared.place.Step.{Step}
use Rattle.boards.specs.declared.place.Step.TheVariants.{North}
use Rattle.boards.specs.Meaning.{Bounded, NoWayIn, outlet_at, landing_at}
use Rattle.boards.specs.Places.{Placed, InRange, Leads, place_at}
use Rattle.boards.specs.Grids.{OnGrid, place_of, cell_of, beside, grid_places}
use Rattle.boards.specs.Maps.{SidesAllowed, byte_at, pad_place, passes, way_to, way, somes, map_board}
use Rattle.boards.specs.Lists.{when_some}
use Rattle.boards.specs.Somes.{length_somes, somes_from}
use Rattle.boards.specs.Meanings.{made_in, made_out, made_outlet, bounded_of}
use Rattle.boards.specs.GridsLemmas.{place_on_grid, cell_of_place, cell_below, place_of_cell, beside_leads, some_point, grid_placed, grid_unplaced}

-- where a way leads
pub record Way (L R C : ℕ) (bytes : List ℕ) (p : Place) (d : ℕ) : Type 0 where
  pub by : Step
  pub to : Place
  pub beside_is : beside L R C p by ≡ Some to
  pub passing : passes by (byte_at C bytes p) ≡ true
  pub no_pad : pad_place C bytes to ≡ false
  pub cell_is : cell_of R C to ≡ d

module _ (L R C : ℕ) (bytes : List ℕ) (p : Place) where
  way_goes : (s : Step) (o : Option Place) (d : ℕ) → beside L R C p s ≡ o → way_to R C bytes p s o ≡ Some d → Way L R C bytes p d
  way_goes s None d e f = let z : ◌≡◌ {A = ℕ} 0 1 = cc in let n : ⊥ = omega arith in absurd n
  way_goes s (Some q) d e f =
      let h = when_some (passes s (byte_at C bytes p) && not (pad_place C bytes q)) (cell_of R C q) d f in
      let t = and_parts (passes s (byte_at C bytes p)) (not (pad_place C bytes q)) h.0 in
      record { by = s; to = q; beside_is = e; passing = t.0; no_pad = not-true _ t.1; cell_is = h.1 }

  pub way_gives : (s : Step) (d : ℕ) → way L R C bytes p s ≡ Some d → Way L R C bytes p d
  way_gives s d e = way_goes s (beside L R C p s) d refl e

-- whether a landing lies where a cell is placed
module _ (L R C : ℕ) (bytes : List ℕ) (steps : List Step) (landing : Place → Bool) (c : ℕ) where
  pub landing_placed : (p : Place) → place_at (grid_places L R C) c ≡ Some p → landing_at (map_board L R C bytes steps landing) c ≡ landing p
  landing_placed p e =
      let h = grid_placed L R C c p e in
      made_in (λ c. landing (place_of R C c)) (L * (R * C)) false c h.0 ∙ ap landing h.1

  pub landing_unplaced : place_at (grid_places L R C) c ≡ None → landing_at (map_board L R C bytes steps landing) c ≡ false
  landing_unplaced e = made_out (λ c. landing (place_of R C c)) (L * (R * C)) false c (grid_unplaced L R C c e)

module _ (L R C : ℕ) (bytes : List ℕ) (steps : List Step) (landing : Place → Bool)
    (some_layer : 1 ≤ L) (few_layers : L ≤ 8) (few_cells : L * (R * C) ≤ 4096) (sides : SidesAllowed R C) (few_steps : length steps ≤ 8) where
  abbrev ways : ℕ → List (Option ℕ)
  ways c = map (way L R C bytes (place_of R C c)) steps

  abbrev pads : ℕ → Bool
  pads c = pad_place C bytes (place_of R C c)

  way_of : (c j : ℕ) → j < length (somes (ways c)) → Way L R C bytes (place_of R C c) (slice_index (somes (ways c)) j)
  way_of c j h =
      let s = somes_from (ways c) j h in
      let f = way L R C bytes (place_of R C c) in
      let k : s.place < length steps = rw (length-map steps f) at s.below in
      way_gives L R C bytes (place_of R C c) (slice_index_or steps s.place North) _ (sym (get_or-map f steps s.place North None k) ∙ s.is)

  outlet_way : (c j d : ℕ) → outlet_at (map_board L R C bytes steps landing) c j ≡ Some d → (c < L * (R * C)) × Way L R C bytes (place_of R C c) d
  outlet_way c j d e =
      let h = made_outlet (L * (R * C)) (λ c. somes (ways c)) pads (λ c. landing (place_of R C c)) c j d e in
      (h.0, subst (Way L R C bytes (place_of R C c)) h.2 (way_of c j h.1))

  -- the place that a way from a cell leads to
  led : (c d : ℕ) → c < L * (R * C) → (w : Way L R C bytes (place_of R C c) d) → OnGrid L R C w.to × Leads w.by (place_of R C c) w.to
  led c d h w = beside_leads L R C (place_of R C c) w.to (place_on_grid R C sides.0 sides.2 L c h) w.by w.beside_is

  way_below : (c d : ℕ) → c < L * (R * C) → Way L R C bytes (place_of R C c) d → d < L * (R * C)
  way_below c d h w = rw w.cell_is at (cell_below R C sides.0 sides.2 L w.to (led c d h w).0)

  way_place : (c d : ℕ) → c < L * (R * C) → (w : Way L R C bytes (place_of R C c) d) → place_of R C d ≡ w.to
  way_place c d h w = ap (place_of R C) (sym w.cell_is) ∙ place_of_cell R C sides.0 sides.2 L w.to (led c d h w).0

  pub map_bounded : Bounded (map_board L R C bytes steps landing)
  map_bounded =
      bounded_of (L * (R * C)) (λ c. somes (ways c)) pads (λ c. landing (place_of R C c))
      (mul-le 1 1 L (R * C) some_layer (some_point R C sides.0 sides.2)) few_cells
      (λ c _. omega (arith, length_somes (ways c), length-map steps (way L R C bytes (place_of R C c))))
      (λ c h j k. way_below c _ h (way_of c j k))

  pub map_no_way_in : NoWayIn (map_board L R C bytes steps landing)
  map_no_way_in c j d e =
      let w = outlet_way c j d e in
      made_in pads (L * (R * C)) false d (way_below c d w.0 w.1)
      ∙ ap (pad_place C bytes) (way_place c d w.0 w.1) ∙ w.1.no_pad

  range : (p : Place) → OnGrid L R C p → InRange p
  range p on =
      let a = on.layer_from in
      let b = on.layer_to in
      let c = on.row_to in
      let d = on.column_to in
      let x = sides.1 in
      let y = sides.3 in
      record { first_layer = omega arith; last_layer = omega arith; last_row = omega arith; last_column = omega arith }

  pub map_placed : Placed (map_board L R C bytes steps landing) (grid_places L R C)
  map_placed = record {
    every_cell = length-map-range_with_len (place_of R C) 0 (L * (R * C));
    in_range = λ c p e. let h = grid_placed L R C c p e in subst InRange h.1 (range _ (place_on_grid R C sides.0 sides.2 L c h.0));
    apart = λ c d p e f.
        sym (cell_of_place R C sides.0 sides.2 c)
        ∙ ap (cell_of R C) ((grid_placed L R C c p e).1 ∙ sym (grid_placed L R C d p f).1)
        ∙ cell_of_place R C sides.0 sides.2 d;
    one_step = λ c j d p q e f g.
        let w = outlet_way c j d e in
        let l = (led c d w.0 w.1).1 in
        let q_is : w.1.to ≡ q = sym (way_place c d w.0 w.1) ∙ (grid_placed L R C d q g).1 in
        (w.1.by, subst (λ (x : Place). Leads w.1.by x q) (grid_placed L R C c p f).1 (subst (Leads w.1.by (place_of R C c)) q_is l));
  }
