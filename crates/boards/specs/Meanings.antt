-- What is answered of a board that is given by what each cell's outlets are, and when such a board is bounded.
use Rattle.std.specs.Prelude.{◌≡◌, ℕ, ◌<◌, ◌≤◌, Bool, List, [], map, length, Some, slice_index, slice_index_or}
use Rattle.std.proofs.Common.{⊎_elim, arith, zero-add}
use Rattle.std.proofs.Math.Path.{subst⁻¹}
use Rattle.std.specs.List.{range_with_len}
use Rattle.std.proofs.lemmas.List.FromFn.{length-map-range_with_len, get_or-map-range_with_len}
use Rattle.std.proofs.lemmas.List.{get_or_past}
use Rattle.std.proofs.lemmas.Bool.{cases_lt}
use Rattle.boards.specs.Meaning.{Meaning, Bounded, board_of, outlet_at, outlets_of}
use Rattle.boards.specs.Lists.{at_some}

-- a list made by a function of the number has what it gives at each number below n, and the default from n on
module _ {X : Type 0} (f : ℕ → X) (n : ℕ) (d : X) where
  pub made_in : (c : ℕ) → c < n → slice_index_or (map f (range_with_len 0 n)) c d ≡ f c
  made_in c h = get_or-map-range_with_len f 0 n c c d h (zero-add c)

  pub made_out : (c : ℕ) → n ≤ c → slice_index_or (map f (range_with_len 0 n)) c d ≡ d
  made_out c h = get_or_past (map f (range_with_len 0 n)) c d (simp length-map-range_with_len h)

module _ (n : ℕ) (f : ℕ → List ℕ) (p l : ℕ → Bool) where
  -- an outlet is one of a cell's list
  pub made_outlet : (c j d : ℕ) → outlet_at (board_of n f p l) c j ≡ Some d → (c < n) × (j < length (f c)) × (slice_index (f c) j ≡ d)
  made_outlet c j d e =
      let h = at_some (outlets_of (board_of n f p l) c) j d e in
      ⊎_elim
      (λ k. let o = made_in f n [] c k in (k, rw o at h.0, rw o at h.1))
      (λ k. let o = made_out f n [] c k in let t : j < length {A = ℕ} [] = rw o at h.0 in let z : ⊥ = omega arith in absurd z)
      (cases_lt c n)

  pub bounded_of : 1 ≤ n → n ≤ 4096 → ((c : ℕ) → c < n → length (f c) ≤ 8) →
      ((c : ℕ) → c < n → (j : ℕ) → j < length (f c) → slice_index (f c) j < n) →
      Bounded (board_of n f p l)
  bounded_of some few short inside = record {
    some_cell = some;
    few_cells = few;
    outlets_length = length-map-range_with_len f 0 n;
    pads_length = length-map-range_with_len p 0 n;
    landings_length = length-map-range_with_len l 0 n;
    few_outlets = λ c. ⊎_elim
        (λ h. let e = made_in f n [] c h in let s = short c h in rw e s)
        (λ h. let e = made_out f n [] c h in rw e (omega arith))
        (cases_lt c n);
    inside = λ c j. let P : List ℕ → Type 0 = λ xs. j < length xs → slice_index xs j < n in ⊎_elim
        (λ h. subst⁻¹ P (made_in f n [] c h) (inside c h j))
        (λ h. subst⁻¹ P (made_out f n [] c h) (λ k. omega arith))
        (cases_lt c n);
  }

-- an outlet of a bounded board is a cell
pub outlet_inside : {m : Meaning} → Bounded m → (c j d : ℕ) → outlet_at m c j ≡ Some d → d < m.cells
outlet_inside {m} b c j d e =
    let s = at_some (outlets_of m c) j d e in
    let k = b.inside c j s.0 in
    rw s.1 at k
