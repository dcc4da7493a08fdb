-- What is not false of sides and places is true.
use Rattle.std.proofs.Common.{◌≡◌, ℕ, ◌*◌, ◌<◌, ◌≤◌, List, Ok, Err, Result, refl, inl, ⊎_elim, arith, lit<}
use Rattle.std.proofs.lemmas.Bool.{cases_lt}
use Rattle.boards.specs.declared.maps.MapKind.{MapKind}
use Rattle.boards.specs.declared.place.Place.{Place}
use Rattle.boards.specs.declared.refusal.BoardRefusal.{BoardRefusal}
use Rattle.boards.specs.declared.refusal.BoardRefusal.TheVariants.{Sides, Length, Byte, OffBoard}
use Rattle.boards.specs.Maps.{SidesAllowed, MapFault}
use Rattle.boards.specs.Numbers.{number_of}
use Rattle.boards.specs.Refusals.{Answer, First}
use Rattle.boards.specs.Grids.{OnGrid}

stable_le : (a b : ℕ) → ((a ≤ b → ⊥) → ⊥) → a ≤ b
stable_le a b f = ⊎_elim (λ h. absurd (f (λ k. omega arith))) (λ h. h) (cases_lt b a)

stable_lt : (a b : ℕ) → ((a < b → ⊥) → ⊥) → a < b
stable_lt a b f = ⊎_elim (λ h. h) (λ h. absurd (f (λ k. omega arith))) (cases_lt a b)

pub sides_stable : (R C : ℕ) → ((SidesAllowed R C → ⊥) → ⊥) → SidesAllowed R C
sides_stable R C f = (
  stable_le 1 R (λ n. f (λ s. n s.0)),
  stable_le R 64 (λ n. f (λ s. n s.1)),
  stable_le 1 C (λ n. f (λ s. n s.2)),
  stable_le C 64 (λ n. f (λ s. n s.3)),
  stable_le (R * C) 2048 (λ n. f (λ s. n s.4)),
)

pub on_grid_stable : (L R C : ℕ) (p : Place) → ((OnGrid L R C p → ⊥) → ⊥) → OnGrid L R C p
on_grid_stable L R C p f = record {
  layer_from = stable_le 1 p.layer (λ n. f (λ g. n g.layer_from));
  layer_to = stable_le p.layer L (λ n. f (λ g. n g.layer_to));
  row_to = stable_lt p.row R (λ n. f (λ g. n g.row_to));
  column_to = stable_lt p.column C (λ n. f (λ g. n g.column_to));
}

-- the map check finds sides that are not allowed first
module _ (kind : MapKind) (R C : ℕ) (bytes : List ℕ) where
  allowed_if_later : (k : ℕ) → 13 < k → First (MapFault kind R C bytes) k → SidesAllowed R C
  allowed_if_later k h a = sides_stable R C (λ n. a.1 13 h (inl (refl, n)))

  pub allowed_else : (r : Result (Unit {0}) BoardRefusal) → Answer number_of (MapFault kind R C bytes) (λ _. Unit {0}) r →
      (r ≡ Err Sides → ⊥) → SidesAllowed R C
  allowed_else (Ok x) a n = sides_stable R C (λ f. a.0 13 (inl (refl, f)))
  allowed_else (Err Sides) a n = absurd (n refl)
  allowed_else (Err Length) a n = allowed_if_later 14 (lit< tt) a
  allowed_else (Err Byte) a n = allowed_if_later 15 (lit< tt) a
  allowed_else (Err OffBoard) a n = allowed_if_later 16 (lit< tt) a
