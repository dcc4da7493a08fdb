-- What stands at a place of a list, and what a test lets through.
use Rattle.std.specs.Prelude.{◌≡◌, ℕ, ◌<◌, ◌≤◌, Bool, true, false, List, length, Some, None, ◌≢◌, nat_lt, slice_index, refl}
use Rattle.std.proofs.Common.{arith}
use Rattle.std.proofs.lemmas.Bool.{ltb-true, ltb-false, lt-ltb, le-ltb}
use Rattle.boards.specs.Meaning.{when, at}

module _ {X : Type 0} where
  pub when_some : (b : Bool) (x y : X) → when b x ≡ Some y → (b ≡ true) × (x ≡ y)
  when_some true x y e = (refl, cc)
  when_some false x y e = let z : ◌≡◌ {A = ℕ} 0 1 = cc in let n : ⊥ = omega arith in absurd n

  pub when_none : (b : Bool) (x : X) → ((y : X) → when b x ≢ Some y) → b ≡ false
  when_none true x f = absurd (f x refl)
  when_none false x f = refl

  pub when_true : (b : Bool) (x : X) → b ≡ true → when b x ≡ Some x
  when_true b x e = rw e

  pub when_false : (b : Bool) (x : X) → b ≡ false → when b x ≡ None
  when_false b x e = rw e

module _ (xs : List ℕ) (j : ℕ) where
  pub at_some : (d : ℕ) → at xs j ≡ Some d → (j < length xs) × (slice_index xs j ≡ d)
  at_some d e = let h = when_some (nat_lt j (length xs)) (slice_index xs j) d e in (ltb-true j (length xs) h.0, h.1)

  pub at_none : ((d : ℕ) → at xs j ≢ Some d) → length xs ≤ j
  at_none f = ltb-false j (length xs) (when_none (nat_lt j (length xs)) (slice_index xs j) f)

  pub at_in : j < length xs → at xs j ≡ Some (slice_index xs j)
  at_in h = when_true _ _ (lt-ltb j (length xs) h)

  pub at_past : length xs ≤ j → at xs j ≡ None
  at_past h = when_false _ _ (le-ltb j (length xs) h)
