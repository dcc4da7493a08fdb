-- What a keep-out leaves of a board.
use Rattle.std.specs.Prelude.{◌≡◌, ℕ, ◌<◌, ◌≤◌, Bool, true, false, cond, not, ◌&&◌, List, [], map, length, Some, None, filter, Option, slice_index, slice_index_or, refl}
use Rattle.std.proofs.Common.{sym, ap, ◌∙◌, ⊎_elim, arith}
use Rattle.std.specs.List.{range_with_len}
use Rattle.std.proofs.lemmas.List.{get_or-map, get_or_past, length-map}
use Rattle.std.proofs.lemmas.Bool.{cond-true, cond-false, and_right, cases_lt}
use Rattle.boards.specs.declared.place.Place.{Place}
use Rattle.boards.specs.Meaning.{Meaning, Bounded, at, when, outlet_at, outlets_of, pad_at, landing_at}
use Rattle.boards.specs.Places.{Placed}
use Rattle.boards.specs.Maps.{somes}
use Rattle.boards.specs.KeepOuts.{keep_out, if_open}
use Rattle.boards.specs.Lists.{when_some, at_in, at_past}
use Rattle.boards.specs.Meanings.{made_in, made_out, made_outlet, bounded_of}
use Rattle.boards.specs.Somes.{length_somes, somes_from, kept_somes}

module _ (closed : ℕ → Bool) (m : Meaning) where
  abbrev pub open_outlets : ℕ → List ℕ
  open_outlets c = cond (closed c) [] (filter (λ d. not (closed d)) (outlets_of m c))

  -- the outlets of a cell, each where it is open
  abbrev pub outlets_if_open : ℕ → List (Option ℕ)
  outlets_if_open c = map (λ d. when (not (closed d)) d) (outlets_of m c)

  -- an outlet left is an outlet below
  kept_from : (c j : ℕ) (b : Bool) → j < length (cond b [] (filter (λ d. not (closed d)) (outlets_of m c))) →
      (i : ℕ) × (i < length (outlets_of m c)) × (slice_index (outlets_of m c) i ≡ slice_index (cond b [] (filter (λ d. not (closed d)) (outlets_of m c))) j)
  kept_from c j true h = let z : ⊥ = omega arith in absurd z
  kept_from c j false h =
      let e = kept_somes (λ d. not (closed d)) (outlets_of m c) in
      let s = somes_from (outlets_if_open c) j (rw e at h) in
      let k : s.place < length (outlets_of m c) = simp length-map at s.below in
      let t = when_some _ _ _ (sym (get_or-map (λ d. when (not (closed d)) d) (outlets_of m c) s.place 0 None k) ∙ s.is) in
      (s.place, k, t.1 ∙ ap (λ xs. slice_index xs j) (sym e))

  short : (c : ℕ) (b : Bool) → length (outlets_of m c) ≤ 8 → length (cond b [] (filter (λ d. not (closed d)) (outlets_of m c))) ≤ 8
  short c true h = omega arith
  short c false h =
      let e = kept_somes (λ d. not (closed d)) (outlets_of m c) in
      rw e (omega (arith, length_somes (outlets_if_open c), length-map (outlets_of m c) (λ d. when (not (closed d)) d)))

  module _ (bounded : Bounded m) where
    pub kept_bounded : Bounded (keep_out closed m)
    kept_bounded =
        bounded_of m.cells open_outlets (λ c. not (closed c) && pad_at m c) (λ c. not (closed c) && landing_at m c) bounded.some_cell bounded.few_cells
        (λ c _. short c (closed c) (bounded.few_outlets c))
        (λ c _ j h. let k = kept_from c j (closed c) h in let i = bounded.inside c k.0 k.1 in rw k.2 at i)

  pub kept_outlet : (c j d : ℕ) → outlet_at (keep_out closed m) c j ≡ Some d → (i : ℕ) × (outlet_at m c i ≡ Some d)
  kept_outlet c j d e =
      let h = made_outlet m.cells open_outlets (λ c. not (closed c) && pad_at m c) (λ c. not (closed c) && landing_at m c) c j d e in
      let k = kept_from c j (closed c) h.1 in
      (k.0, at_in (outlets_of m c) k.0 k.1 ∙ ap Some (k.2 ∙ h.2))

  pub kept_placed : (ps : List Place) → Placed m ps → Placed (keep_out closed m) ps
  kept_placed ps P = record {
    every_cell = P.every_cell;
    in_range = P.in_range;
    apart = P.apart;
    one_step = λ c j d p q e f g. let k = kept_outlet c j d e in P.one_step c k.0 d p q k.1 f g;
  }

  -- the outlets of a closed cell and of an open one
  module _ (bounded : Bounded m) (c : ℕ) where
    none_kept : (b : Bool) (xs : List ℕ) → xs ≡ [] → cond b [] (filter (λ d. not (closed d)) xs) ≡ []
    none_kept true xs e = refl
    none_kept false xs e = ap (filter (λ d. not (closed d))) e

    kept_outlets : outlets_of (keep_out closed m) c ≡ open_outlets c
    kept_outlets = ⊎_elim
        (λ h. made_in open_outlets m.cells [] c h)
        (λ h.
        let l = bounded.outlets_length in
        made_out open_outlets m.cells [] c h ∙ sym (none_kept (closed c) (outlets_of m c) (get_or_past m.outlets c [] (rw l h))))
        (cases_lt c m.cells)

    pub outlet_closed : (j : ℕ) → closed c ≡ true → outlet_at (keep_out closed m) c j ≡ None
    outlet_closed j t = ap (λ xs. at xs j) (kept_outlets ∙ cond-true _ _ _ t) ∙ at_past [] j (omega arith)

    pub outlet_open : (j : ℕ) → closed c ≡ false → outlet_at (keep_out closed m) c j ≡ at (somes (outlets_if_open c)) j
    outlet_open j t = ap (λ xs. at xs j) (kept_outlets ∙ cond-false _ _ _ t ∙ kept_somes (λ d. not (closed d)) (outlets_of m c))

  -- the i-th of them is the i-th outlet below, if it is open
  pub if_open_at : (c i : ℕ) → slice_index_or (outlets_if_open c) i None ≡ if_open closed (outlet_at m c i)
  if_open_at c i = ⊎_elim
      (λ h.
      get_or-map (λ d. when (not (closed d)) d) (outlets_of m c) i 0 None h
      ∙ ap (if_open closed) (sym (at_in (outlets_of m c) i h)))
      (λ h.
      get_or_past (outlets_if_open c) i None (simp length-map h)
      ∙ ap (if_open closed) (sym (at_past (outlets_of m c) i h)))
      (cases_lt i (length (outlets_of m c)))

  -- pads and landings are those below that are not closed
  module _ (marks : List Bool) (n : ℕ) (each : length marks ≡ n) where
    kept_mark : (c : ℕ) → slice_index_or (map (λ c. not (closed c) && slice_index_or marks c false) (range_with_len 0 n)) c false ≡ (not (closed c) && slice_index_or marks c false)
    kept_mark c = ⊎_elim
        (λ h. made_in (λ c. not (closed c) && slice_index_or marks c false) n false c h)
        (λ h.
        made_out (λ c. not (closed c) && slice_index_or marks c false) n false c h
        ∙ sym (and_right (not (closed c)) (slice_index_or marks c false) (get_or_past marks c false (rw each h))))
        (cases_lt c n)

  pub kept_pad : Bounded m → (c : ℕ) → pad_at (keep_out closed m) c ≡ (not (closed c) && pad_at m c)
  kept_pad b = kept_mark m.pads m.cells b.pads_length

  pub kept_landing : Bounded m → (c : ℕ) → landing_at (keep_out closed m) c ≡ (not (closed c) && landing_at m c)
  kept_landing b = kept_mark m.landings m.cells b.landings_length
