-- The answers of a board over the map that it holds.
use Rattle.std.proofs.Common.{◌≡◌, ℕ, ◌*◌, Bool, false, List, [], map, Some, None, Option, ap, subst, ◌∙◌, ⊎_elim, arith, vec_items}
use Rattle.std.specs.Prelude.{MatchOption}
use Rattle.std.proofs.lemmas.Bool.{cases_lt}
use Rattle.boards.specs.declared.map.Map.{Map}
use Rattle.boards.specs.declared.place.Place.{Place}
use Rattle.boards.specs.declared.place.Step.{Step}
use Rattle.boards.specs.Meaning.{Meaning, at, outlet_at, pad_at, landing_at}
use Rattle.boards.specs.Places.{Finds}
use Rattle.boards.specs.Grids.{place_of, cell_of, OnGrid}
use Rattle.boards.specs.Maps.{pad_place, way, somes}
use Rattle.boards.specs.MapMade.{Lies, LiesNowhere, map_meaning, map_places}
use Rattle.boards.specs.Lists.{at_past}
use Rattle.boards.specs.Meanings.{made_in, made_out}
use Rattle.boards.specs.MapBoards.{landing_placed, landing_unplaced}
use Rattle.boards.specs.GridsLemmas.{grid_placed, grid_unplaced, grid_finds, grid_found}

-- two facts about one answer, by its cases
pub by_cases : {S A N N' : Type 0} {P P' : S → Type 0} (o : Option S) → MatchOption o N P → MatchOption o N' P' →
    (N → N' → A) → ((s : S) → P s → P' s → A) → A
by_cases None n n' none some = none n n'
by_cases (Some s) p p' none some = some s p p'

module _ (L : ℕ) (steps : List Step) (landing : (R C : ℕ) → List ℕ → Place → Bool) (c : ℕ) where
  abbrev told : Option Map → Meaning
  told = map_meaning L steps landing

  -- a number where no cell lies has no outlet, and is neither pad nor landing
  pub no_outlet : (held : Option Map) (j : ℕ) → LiesNowhere L held c → outlet_at (told held) c j ≡ None
  no_outlet (Some m) j e =
      ap (λ xs. at xs j) (made_out (λ c. somes (map (way L m.rows m.columns (vec_items m.bytes) (place_of m.rows m.columns c)) steps)) (L * (m.rows * m.columns)) [] c (grid_unplaced L m.rows m.columns c e))
      ∙ at_past [] j (omega arith)
  no_outlet None j e = ⊎_elim
      (λ h. ap (λ xs. at xs j) (made_in (λ c. []) 1 [] c h) ∙ at_past [] j (omega arith))
      (λ h. ap (λ xs. at xs j) (made_out (λ c. []) 1 [] c h) ∙ at_past [] j (omega arith))
      (cases_lt c 1)

  pub no_pad : (held : Option Map) → LiesNowhere L held c → pad_at (told held) c ≡ false
  no_pad (Some m) e = made_out (λ c. pad_place m.columns (vec_items m.bytes) (place_of m.rows m.columns c)) (L * (m.rows * m.columns)) false c (grid_unplaced L m.rows m.columns c e)
  no_pad None e = ⊎_elim (made_in (λ c. false) 1 false c) (made_out (λ c. false) 1 false c) (cases_lt c 1)

  pub no_landing : (held : Option Map) → LiesNowhere L held c → landing_at (told held) c ≡ false
  no_landing (Some m) e = landing_unplaced L m.rows m.columns (vec_items m.bytes) steps (landing m.rows m.columns (vec_items m.bytes)) c e
  no_landing None e = ⊎_elim (made_in (λ c. false) 1 false c) (made_out (λ c. false) 1 false c) (cases_lt c 1)

  -- the answers about a cell are those about its place
  module _ (held : Option Map) (m : Map) (p : Place) (lies : Lies L held c m p) where
    pub outlet_there : (j : ℕ) → outlet_at (told held) c j ≡ at (somes (map (way L m.rows m.columns (vec_items m.bytes) p) steps)) j
    outlet_there j =
        let f = λ (p : Place). somes (map (way L m.rows m.columns (vec_items m.bytes) p) steps) in
        let h = grid_placed L m.rows m.columns c p lies.1 in
        ap (λ o. outlet_at (told o) c j) lies.0
        ∙ ap (λ xs. at xs j) (made_in (λ c. f (place_of m.rows m.columns c)) (L * (m.rows * m.columns)) [] c h.0 ∙ ap f h.1)

    pub pad_there : pad_at (told held) c ≡ pad_place m.columns (vec_items m.bytes) p
    pad_there =
        let f = pad_place m.columns (vec_items m.bytes) in
        let h = grid_placed L m.rows m.columns c p lies.1 in
        ap (λ o. pad_at (told o) c) lies.0
        ∙ made_in (λ c. f (place_of m.rows m.columns c)) (L * (m.rows * m.columns)) false c h.0 ∙ ap f h.1

    pub landing_there : landing_at (told held) c ≡ landing m.rows m.columns (vec_items m.bytes) p
    landing_there =
        ap (λ o. landing_at (told o) c) lies.0
        ∙ landing_placed L m.rows m.columns (vec_items m.bytes) steps (landing m.rows m.columns (vec_items m.bytes)) c p lies.1

-- which cell lies at a place
module _ (L : ℕ) (held : Option Map) (m : Map) (is : Some m ≡ held) (p : Place) where
  pub finds_none : (OnGrid L m.rows m.columns p → ⊥) → Finds (map_places L held) p None
  finds_none f =
      subst (λ (o : Option Map). Finds (map_places L o) p None) is
      (λ c e. f (grid_found L m.rows m.columns m.sides.0 m.sides.2 p c e))

  pub finds_some : OnGrid L m.rows m.columns p → Finds (map_places L held) p (Some (cell_of m.rows m.columns p))
  finds_some on =
      subst (λ (o : Option Map). Finds (map_places L o) p (Some (cell_of m.rows m.columns p))) is
      (grid_finds L m.rows m.columns m.sides.0 m.sides.2 p on)
