-- What an accepted map promises, and the boards made from maps.
use Rattle.std.specs.Prelude.{◌≡◌, ℕ, zero, suc, ◌*◌, ◌≤◌, Bool, false, List, [], ◌∷◌, length, Some, None, Ok, Err, vec_items, Option, Result, ◌≢◌, nat_lt, refl}
use Rattle.std.specs.Result.{result_ok}
use Rattle.std.proofs.Common.{subst, inl, inr, ⊎_elim, arith}
use Rattle.std.proofs.lemmas.Nat.{mul-le}
use Rattle.std.proofs.lemmas.Bool.{cases_lt, cases_eq, ltb-true}
use Rattle.boards.specs.declared.map.Map.{Map}
use Rattle.boards.specs.declared.maps.MapKind.{MapKind}
use Rattle.boards.specs.declared.place.Place.{Place}
use Rattle.boards.specs.declared.place.Step.{Step}
use Rattle.boards.specs.Meaning.{Meaning, Bounded, NoWayIn, outlet_at}
use Rattle.boards.specs.Places.{Placed, InRange, place_at}
use Rattle.boards.specs.declared.refusal.BoardRefusal.{BoardRefusal}
use Rattle.boards.specs.Numbers.{number_of}
use Rattle.boards.specs.Refusals.{NoneHolds, Answer}
use Rattle.boards.specs.Grids.{Few}
use Rattle.boards.specs.Maps.{MapFault, SidesAllowed, one_cell, origin}
use Rattle.boards.specs.MapMade.{Taken, Made, over, map_meaning, map_places}
use Rattle.boards.specs.Fields.{field_steps}
use Rattle.boards.specs.Escapes.{escape_steps}
use Rattle.boards.specs.Lists.{when_some}
use Rattle.boards.specs.Meanings.{bounded_of, made_outlet}
use Rattle.boards.specs.MapBoards.{map_bounded, map_no_way_in, map_placed}

-- what is not false of an order is true
not_not_le : (a b : ℕ) → ((a ≤ b → ⊥) → ⊥) → a ≤ b
not_not_le a b f = ⊎_elim (λ h. absurd (f (λ k. omega arith))) (λ h. h) (cases_lt b a)

not_not_eq : (a b : ℕ) → ((a ≢ b) → ⊥) → a ≡ b
not_not_eq a b f = ⊎_elim (λ e. e) (λ n. absurd (f n)) (cases_eq a b)

module _ (kind : MapKind) (R C : ℕ) (bytes : List ℕ) (good : NoneHolds (MapFault kind R C bytes)) where
  pub accepted_sides : SidesAllowed R C
  accepted_sides =
      let f : (SidesAllowed R C → ⊥) → ⊥ = λ n. good 13 (inl (refl, n)) in (
        not_not_le 1 R (λ n. f (λ s. n s.0)),
        not_not_le R 64 (λ n. f (λ s. n s.1)),
        not_not_le 1 C (λ n. f (λ s. n s.2)),
        not_not_le C 64 (λ n. f (λ s. n s.3)),
        not_not_le (R * C) 2048 (λ n. f (λ s. n s.4)),
      )

  pub accepted_length : length bytes ≡ R * C
  accepted_length = not_not_eq (length bytes) (R * C) (λ n. good 14 (inr (inl (refl, n))))

-- a board that holds the map that was taken
module _ (kind : MapKind) (R C : ℕ) (bytes : List ℕ) (told : (R C : ℕ) → List ℕ → Meaning) (places : (R C : ℕ) → List ℕ → List Place) where
  pub made_from : (o : Option Map) → Taken kind R C bytes o →
      Made kind R C bytes (told R C bytes) (places R C bytes) (over told one_cell o) (over places (origin ∷ []) o)
  made_from (Some m) t =
      let r = t.1 in
      let c = t.2 in
      let b = t.3 in
      record { accepted = λ _. (cc, cc); refused = λ k f. absurd (t.0 k f) }
  made_from None t = record { accepted = λ g. absurd (g t.0 t.1); refused = λ k f. (refl, refl) }

  -- what the map check lets through is taken
  taken_of : (r : Result Map BoardRefusal) → Answer number_of (MapFault kind R C bytes) (λ m. (m.rows ≡ R) × (m.columns ≡ C) × (vec_items m.bytes ≡ bytes)) r →
      Taken kind R C bytes (result_ok r)
  taken_of (Ok m) t = (t.0, t.1.0, t.1.1, t.1.2)
  taken_of (Err e) t = (number_of e, t.0)

  -- the board that holds what the map check lets through
  pub made_of_checked : (r : Result Map BoardRefusal) → Answer number_of (MapFault kind R C bytes) (λ m. (m.rows ≡ R) × (m.columns ≡ C) × (vec_items m.bytes ≡ bytes)) r →
      Made kind R C bytes (told R C bytes) (places R C bytes) (over told one_cell (result_ok r)) (over places (origin ∷ []) (result_ok r))
  made_of_checked r t = made_from (result_ok r) (taken_of r t)

pub one_bounded : Bounded one_cell
one_bounded = bounded_of 1 (λ c. []) (λ c. false) (λ c. false) (omega arith) (omega arith) (λ c _. omega arith) (λ c _ j h. let z : ⊥ = omega arith in absurd z)

no_outlet : {X : Type 0} (c j d : ℕ) → outlet_at one_cell c j ≡ Some d → X
no_outlet c j d e = let h = (made_outlet 1 (λ c. []) (λ c. false) (λ c. false) c j d e).1 in let z : ⊥ = omega arith in absurd z

pub one_no_way_in : NoWayIn one_cell
one_no_way_in c j d e = no_outlet c j d e

one_placed_at : (c : ℕ) (p : Place) → place_at (origin ∷ []) c ≡ Some p → (c ≡ 0) × (origin ≡ p)
one_placed_at zero p e = (refl, (when_some (nat_lt 0 1) origin p e).1)
one_placed_at (suc c) p e = let h = ltb-true (suc c) 1 (when_some (nat_lt (suc c) 1) _ p e).0 in let z : ⊥ = omega arith in absurd z

pub one_placed : Placed one_cell (origin ∷ [])
one_placed = record {
  every_cell = refl;
  in_range = λ c p e.
      subst InRange (one_placed_at c p e).1
      (record { first_layer = omega arith; last_layer = omega arith; last_row = omega arith; last_column = omega arith });
  apart = λ c d p e f. let x = (one_placed_at c p e).0 in let y = (one_placed_at d p f).0 in omega arith;
  one_step = λ c j d p q e f g. no_outlet c j d e;
}

-- a board over the map that it holds
module _ (L : ℕ) (steps : List Step) (landing : (R C : ℕ) → List ℕ → Place → Bool) (few : Few L steps) where
  pub few_cells : (R C : ℕ) → SidesAllowed R C → L * (R * C) ≤ 4096
  few_cells R C s = omega (arith, mul-le L (R * C) 2 2048 few.few_layers s.4)

  pub held_bounded : (o : Option Map) → Bounded (map_meaning L steps landing o)
  held_bounded (Some m) =
      let l = landing m.rows m.columns (vec_items m.bytes) in
      map_bounded L m.rows m.columns _ steps l few.some_layer (omega (arith, few.few_layers)) (few_cells _ _ m.sides) m.sides few.few_steps
  held_bounded None = one_bounded

  pub held_no_way_in : (o : Option Map) → NoWayIn (map_meaning L steps landing o)
  held_no_way_in (Some m) =
      let l = landing m.rows m.columns (vec_items m.bytes) in
      map_no_way_in L m.rows m.columns (vec_items m.bytes) steps l few.some_layer (omega (arith, few.few_layers)) (few_cells _ _ m.sides) m.sides few.few_steps
  held_no_way_in None = one_no_way_in

  pub held_placed : (o : Option Map) → Placed (map_meaning L steps landing o) (map_places L o)
  held_placed (Some m) =
      let l = landing m.rows m.columns (vec_items m.bytes) in
      map_placed L m.rows m.columns _ steps l few.some_layer (omega (arith, few.few_layers)) (few_cells _ _ m.sides) m.sides few.few_steps
  held_placed None = one_placed

-- fields and escape boards
pub field_few : Few 2 field_steps
field_few = record { some_layer = omega arith; few_layers = omega arith; few_steps = omega arith }

pub escape_few : Few 1 escape_steps
escape_few = record { some_layer = omega arith; few_layers = omega arith; few_steps = omega arith }
