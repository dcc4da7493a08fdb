-- Reading a net cell by cell.
use Rattle.std.proofs.Common.{◌≡◌, ℕ, zero, suc, ◌<◌, ◌≤◌, Bool, true, false, eqb, ltb, cond, ◌⊎◌, List, [], ◌∷◌, ◌++◌, map, length, get_or, take, drop, Some, None, Option, MatchOption, filter, refl, sym, ap, ◌∙◌, subst, inl, inr, arith}
use Rattle.std.specs.List.{slice_get}
use Rattle.std.specs.Iterator.{YieldsFirst, SkipsThenYields}
use Rattle.std.proofs.lemmas.Iterator.Adapters.{option_map_id}
use Rattle.std.proofs.lemmas.Iterator.Consumers.{YieldsList-from_first, nth_from_yields_List}
use Rattle.std.proofs.lemmas.List.{length-map, get_or_past, length-take-le, take-append-drop}
use Rattle.std.proofs.lemmas.List.Sums.{length-filter, count_by-le-length}
use Rattle.std.proofs.lemmas.Bool.{ltb-false, eq-eqb, both_ways}
use Rattle.std.proofs.lemmas.Option.{none-some}
use Rattle.boards.specs.declared.place.Place.{Place}
use Rattle.boards.specs.Meaning.{Meaning, pad_at}
use Rattle.boards.specs.Refusals.{First, NoneHolds}
use Rattle.boards.specs.Places.{nowhere, place_at}
use Rattle.boards.specs.Lists.{when_none}
use Rattle.records.specs.declared.record.Record.{Record}
use Rattle.drawings.specs.declared.nets.Following.{Following}
use Rattle.drawings.specs.Following.{cells_left}
use Rattle.drawings.specs.Nets.{after_at, first_at, onward, net, Runs, ends, goes}
use Rattle.drawings.specs.Lawful.{Lawful}
use Rattle.drawings.specs.Conditions.{NewRefused, PadRefused}
use Rattle.drawings.proofs.Accepted.{first_past, none_past}
use Rattle.drawings.proofs.Follow.{net_step}
use Rattle.layouts.specs.declared.wires.Point.{Point}
use Rattle.layouts.specs.declared.wires.Layer.{Layer}
use Rattle.layouts.specs.declared.wires.Layer.TheVariants.{Top, Bottom}
use Rattle.layouts.specs.Layouts.{layer_number}
use Rattle.layouts.specs.Readings.{point_of, right_below, lies_on, points_on, places_of, points_written, ReadRefused}

-- a number that has no place
pub place_none : (ps : List Place) (c : ℕ) → place_at ps c ≡ None → get_or ps c nowhere ≡ nowhere
place_none ps c e =
    get_or_past ps c nowhere (ltb-false c (length ps) (when_none (ltb c (length ps)) (get_or ps c nowhere) (λ y f. absurd (none-some y (sym e ∙ f)))))

run_list : {d : List Record} {c : ℕ} {xs : List ℕ} → Runs d c xs → (ys : List ℕ) × (xs ≡ c ∷ ys)
run_list (ends e) = ([], refl)
run_list (goes {xs = xs} e r) = (xs, refl)

-- the layer is seen from the second cell
pub layer_seen : (ps : List Place) (d : List Record) (c t : ℕ) → Runs d c (net d c) → after_at d c ≡ Some t →
    lies_on (places_of ps (net d c)) ≡ cond (right_below (get_or ps c nowhere) (get_or ps t nowhere)) Bottom Top
layer_seen ps d c t r e =
    let h = net_step d c t r e in
    let l = run_list h.0 in
    ap (λ xs. lies_on (places_of ps xs)) (h.1 ∙ ap (λ ys. c ∷ ys) l.1)

-- and of any net, which may have no second cell; Q is what is known of it
pub layer_told : {Q : ℕ → Type 0} {a b : Bool} {s : Following} (ps : List Place) (d : List Record) (c : ℕ) (r : Option ℕ) (u : Following) →
    cells_left s ≡ net d c → SkipsThenYields (YieldsFirst cells_left) s 1 r u → a ≡ b → MatchOption r (a ≡ false) Q →
    ((t : ℕ) → Q t → a ≡ right_below (get_or ps c nowhere) (get_or ps t nowhere)) → cond b Bottom Top ≡ lies_on (places_of ps (net d c))
layer_told {Q} {a} {b} ps d c r u cells ran same h told = sym (ap answer same) ∙ go (length d) (subst Known second h)
  where
    answer : Bool → Layer
    answer b = cond b Bottom Top

    Known : Option ℕ → Type 0
    Known r = MatchOption r (a ≡ false) Q

    second : r ≡ slice_get (net d c) 1
    second = sym (option_map_id r) ∙ nth_from_yields_List r u 1 ran (YieldsList-from_first (λ x. x) cells_left (net d c) cells)

    rest : (xs : List ℕ) → Known (slice_get (c ∷ xs) 1) → answer a ≡ lies_on (places_of ps (c ∷ xs))
    rest [] h = ap answer h
    rest (x ∷ xs) h = ap answer (told x h)

    go : (k : ℕ) → Known (slice_get (onward d (Some c) k) 1) → answer a ≡ lies_on (places_of ps (onward d (Some c) k))
    go zero h = ap answer h
    go (suc k) h = rest (onward d (after_at d c) k) h

-- the point of one place
pub point_on : (p : Place) (l : Layer) → p.layer ≡ layer_number l → points_on l (p ∷ []) ≡ point_of p ∷ []
point_on p l e = ap (λ b. map point_of (cond b (p ∷ []) [])) (eq-eqb p.layer (layer_number l) e)

-- and of one place more
pub points_cons : (l : Layer) (p : Place) (ps : List Place) → points_on l (p ∷ ps) ≡ points_on l (p ∷ []) ++ points_on l ps
points_cons l p ps = go (eqb p.layer (layer_number l))
  where
    go : (b : Bool) → map point_of (cond b (p ∷ filter (λ q. eqb q.layer (layer_number l)) ps) (filter (λ q. eqb q.layer (layer_number l)) ps)) ≡
        map point_of (cond b (p ∷ []) []) ++ map point_of (filter (λ q. eqb q.layer (layer_number l)) ps)
    go true = refl
    go false = refl

pub points_few : (l : Layer) (ps : List Place) → length (points_on l ps) ≤ length ps
points_few l ps =
    let p : Place → Bool = λ q. eqb q.layer (layer_number l) in omega (arith, length-map (filter p ps) point_of, length-filter p ps, count_by-le-length p ps)

-- a wire has no more points than its net has cells
pub wire_short : (l : Layer) (ps : List Place) (xs : List ℕ) → length (points_on l (places_of ps xs)) ≤ length xs
wire_short l ps xs = omega (arith, points_few l (places_of ps xs), length-map xs (λ x. get_or ps x nowhere))

-- a list whose front is written over
pub written_whole : (ys ws xs : List Point) (r : ℕ) → r ≤ length ys → take r ys ≡ xs → drop r ys ≡ drop r ws → (r ≡ length xs) × (ys ≡ points_written xs ws)
written_whole ys ws xs r h e f =
    let n : r ≡ length xs = sym (length-take-le r ys h) ∙ ap length e in
    (n, sym (take-append-drop r ys) ∙ ap (λ zs. zs ++ drop r ys) e ∙ ap (λ zs. xs ++ zs) (f ∙ ap (λ k. drop k ws) n))

-- ---- where a wire can be read, in the order of the refusals' numbers

module _ (m : Meaning) (d : List Record) (points : List Point) (c : ℕ) (long : length d ≡ m.cells) (room : m.cells ≤ length points) where
  abbrev Later : ℕ → Type 0
  Later k = ((k ≡ 3) × (length points < m.cells)) ⊎ PadRefused m d c k

  pub read_first : (n : ℕ) → First (PadRefused m d c) n → First (ReadRefused m d points c) n
  read_first n h = first_past (NewRefused m d) Later n (λ k p. p.1 long)
      (first_past (λ k. (k ≡ 3) × (length points < m.cells)) (PadRefused m d c) n (λ k p. let l = p.1 in omega arith) h)

  pub read_allowed : NoneHolds (PadRefused m d c) → NoneHolds (ReadRefused m d points c)
  read_allowed none = none_past (NewRefused m d) Later (λ k p. p.1 long)
      (none_past (λ k. (k ≡ 3) × (length points < m.cells)) (PadRefused m d c) (λ k p. let l = p.1 in omega arith) none)

-- and from a wired pad of a lawful drawing one can be read
pub may_read : (m : Meaning) (d : List Record) (points : List Point) (c : ℕ) → Lawful m d → m.cells ≤ length points → c < m.cells →
    pad_at m c ≡ true → first_at d c ≡ true → NoneHolds (ReadRefused m d points c)
may_read m d points c W room inside pad wired k (inl h) = h.1 W.one_each
may_read m d points c W room inside pad wired k (inr (inl h)) = let l = h.1 in omega arith
may_read m d points c W room inside pad wired k (inr (inr (inl h))) = h.1 W
may_read m d points c W room inside pad wired k (inr (inr (inr (inl h)))) = let l = h.1 in omega arith
may_read m d points c W room inside pad wired k (inr (inr (inr (inr (inl h))))) = both_ways (pad_at m c) h.1 pad
may_read m d points c W room inside pad wired k (inr (inr (inr (inr (inr h))))) = both_ways (first_at d c) h.1 wired
