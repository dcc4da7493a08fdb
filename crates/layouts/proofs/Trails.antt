-- The places of a net: a trail from a pad to a landing, which reads as a wire.
use Rattle.std.proofs.Common.{◌≡◌, ℕ, true, false, cond, ◌||◌, eqb, List, [], ◌∷◌, ◌++◌, map, sym, refl, ap, ◌∙◌, subst, inl, inr, arith}
use Rattle.std.proofs.lemmas.Bool.{and_parts, or_cases, eqb-true, eq-eqb, both_ways}
use Rattle.boards.specs.declared.place.Place.{Place}
use Rattle.boards.specs.Grids.{OnGrid}
use Rattle.boards.specs.Maps.{pad_point, landing_point, byte_at, pad_place}
use Rattle.boards.specs.Fields.{field_landing}
use Rattle.layouts.specs.declared.wires.Point.{Point}
use Rattle.layouts.specs.declared.wires.Layer.{Layer}
use Rattle.layouts.specs.declared.wires.Layer.TheVariants.{Top, Bottom}
use Rattle.layouts.specs.Layouts.{Wire, Course, stops, steps, OnMap, LandingPoint, on_layer, layer_number, firsts, lasts, places_on, occupied}
use Rattle.layouts.specs.Readings.{point_of, right_below, lies_on, points_on, wire_through}
use Rattle.layouts.proofs.Moves.{Move, along, down, place_eq}

-- ---- reading what a wire occupies

-- of places on a layer all lie there, and none elsewhere
kept_own : (l : Layer) (ps : List Point) → points_on l (map (on_layer (layer_number l)) ps) ≡ ps
kept_own Top [] = refl
kept_own Top (p ∷ ps) = ap (λ qs. p ∷ qs) (kept_own Top ps)
kept_own Bottom [] = refl
kept_own Bottom (p ∷ ps) = ap (λ qs. p ∷ qs) (kept_own Bottom ps)

kept_below : (ps : List Point) → points_on Top (map (on_layer 2) ps) ≡ []
kept_below [] = refl
kept_below (p ∷ ps) = kept_below ps

kept_top : (ps qs : List Point) → points_on Top (map (on_layer 1) ps ++ map (on_layer 2) qs) ≡ ps
kept_top [] qs = kept_below qs
kept_top (p ∷ ps) qs = ap (λ rs. p ∷ rs) (kept_top ps qs)

kept_bottom : (ps : List Point) → points_on Bottom (places_on Bottom ps) ≡ ps
kept_bottom [] = refl
kept_bottom (p ∷ ps) = kept_own Bottom (p ∷ ps)

pub points_back : (w : Wire) → points_on w.layer (occupied w) ≡ w.points
points_back w = go w.layer w.points
  where
    go : (l : Layer) (ps : List Point) → points_on l (places_on l ps) ≡ ps
    go Top ps = kept_top ps (lasts ps)
    go Bottom ps = kept_bottom ps

below_own : (p : Point) → right_below (on_layer 1 p) (on_layer 2 p) ≡ true
below_own p = rw (eq-eqb p.row p.row refl, eq-eqb p.column p.column refl)

abbrev wire_on : Layer → List Point → Wire
wire_on l ps = record { layer = l; points = ps }

-- a wire through the places that it occupies is itself, if its layer is seen from the second
pub read_back : (w : Wire) → lies_on (occupied w) ≡ w.layer → wire_through (occupied w) ≡ w
read_back w e = go w.layer w.points (lies_on (occupied w)) e (points_back w)
  where
    go : (l : Layer) (ps : List Point) (k : Layer) → k ≡ l → points_on l (places_on l ps) ≡ ps →
        wire_on k (points_on k (places_on l ps)) ≡ wire_on l ps
    go l ps k f g = ap (λ j. wire_on j (points_on j (places_on l ps))) f ∙ ap (wire_on l) g

pub bottom_lies : (p : Point) (ps : List Point) → lies_on (places_on Bottom (p ∷ ps)) ≡ Bottom
bottom_lies p ps = ap (λ b. cond b Bottom Top) (below_own p)

-- ---- trails

-- the places from p on, each a move from the one before it, as far as the first landing
pub data Trail (R C : ℕ) (bytes : List ℕ) : Place → List Place → Type 0 where
  lands : {p : Place} → OnGrid 2 R C p → field_landing C bytes p ≡ true → Trail R C bytes p (p ∷ [])
  moves : {p q : Place} {ps : List Place} → OnGrid 2 R C p → field_landing C bytes p ≡ false → Move C bytes p q → Trail R C bytes q ps →
      Trail R C bytes p (p ∷ ps)

-- points from p on to a landing point
pub record Ran (R C : ℕ) (bytes : List ℕ) (p : Point) (ps : List Point) : Type 0 where
  pub landing : Point
  pub to_landing : LandingPoint C bytes landing
  pub course : Course R C landing p ps

pub course_firsts : {R C : ℕ} {z p : Point} {ps : List Point} → Course R C z p ps → firsts ps ≡ p ∷ []
course_firsts (stops o e) = refl
course_firsts (steps o n c) = refl

pub course_lasts : {R C : ℕ} {z p : Point} {ps : List Point} (q : Point) → Course R C z p ps → lasts (q ∷ ps) ≡ lasts ps
course_lasts q (stops o e) = refl
course_lasts q (steps o n c) = refl

-- a course is seen to lie on the top where it goes on there
top_lies : {R C : ℕ} {z p : Point} {ps : List Point} (q : Point) → Course R C z p ps → lies_on (places_on Top (q ∷ ps)) ≡ Top
top_lies q (stops o e) = refl
top_lies q (steps o n c) = refl

bottom_begins : {R C : ℕ} {z p : Point} {ps : List Point} → Course R C z p ps → lies_on (places_on Bottom ps) ≡ Bottom
bottom_begins (stops {p = p} o e) = bottom_lies p []
bottom_begins (steps {p = p} {ps = ps} o n c) = bottom_lies p ps

module _ (R C : ℕ) (bytes : List ℕ) where
  on_map : (p : Place) → OnGrid 2 R C p → OnMap R C (point_of p)
  on_map p o = (o.row_to, o.column_to)

  put_back : (l : ℕ) (p : Place) → p.layer ≡ l → on_layer l (point_of p) ≡ p
  put_back l p e = place_eq (on_layer l (point_of p)) p (sym e) refl refl

  no_landing_above : (p : Place) → p.layer ≡ 1 → field_landing C bytes p ≡ true → ⊥
  no_landing_above p e l =
      let h = eqb-true p.layer 2 (and_parts (eqb p.layer 2) (landing_point (byte_at C bytes p)) l).0 in
      let z : ⊥ = omega arith in z

  landing_here : (p : Place) → field_landing C bytes p ≡ true → LandingPoint C bytes (point_of p)
  landing_here p l = (and_parts (eqb p.layer 2) (landing_point (byte_at C bytes p)) l).1

  bottom : {p : Place} {ps : List Place} → Trail R C bytes p ps → p.layer ≡ 2 →
      (points : List Point) × Ran R C bytes (point_of p) points × (map (on_layer 2) points ≡ ps)
  bottom (lands {p = p} o l) e = (
    point_of p ∷ [],
    record { landing = point_of p; to_landing = landing_here p l; course = stops (on_map p o) refl },
    ap (λ q. q ∷ []) (put_back 2 p e),
  )
  bottom (moves {p = p} o f (along l n h) t) e =
      let r = bottom t (l ∙ e) in (
        point_of p ∷ r.0,
        record { landing = r.1.landing; to_landing = r.1.to_landing; course = steps (on_map p o) n r.1.course },
        ap (λ q. q ∷ map (on_layer 2) r.0) (put_back 2 p e) ∙ ap (λ qs. p ∷ qs) r.2,
      )
  bottom (moves o f (down l g h) t) e = let z : ⊥ = omega arith in absurd z

  -- a trail that begins at a landing ends there
  landed : {p : Place} {ps : List Place} → Trail R C bytes p ps → field_landing C bytes p ≡ true → ps ≡ p ∷ []
  landed (lands o l) e = refl
  landed (moves {p = p} o f m t) e = absurd (both_ways (field_landing C bytes p) f e)

  -- at a place that holds no pad the way down is that of a landing point
  way_down : (p : Place) → p.layer ≡ 1 → pad_place C bytes p ≡ false → (pad_point (byte_at C bytes p) || landing_point (byte_at C bytes p)) ≡ true →
      LandingPoint C bytes (point_of p)
  way_down p e n h = elim (or_cases (pad_point (byte_at C bytes p)) (landing_point (byte_at C bytes p)) h) [
    | inl k ↦ absurd (both_ways (pad_place C bytes p) n (rw (eq-eqb p.layer 1 e, k)))
    | inr k ↦ k
  ]

  top : {p : Place} {ps : List Place} → Trail R C bytes p ps → p.layer ≡ 1 → pad_place C bytes p ≡ false →
      (points : List Point) × Ran R C bytes (point_of p) points × (places_on Top points ≡ ps)
  top (lands {p = p} o l) e n = absurd (no_landing_above p e l)
  top (moves {p = p} o f (along l b h) t) e n =
      let r = top t (l ∙ e) h in (
        point_of p ∷ r.0,
        record { landing = r.1.landing; to_landing = r.1.to_landing; course = steps (on_map p o) b r.1.course },
        ap (λ q. q ∷ (map (on_layer 1) r.0 ++ map (on_layer 2) (lasts (point_of p ∷ r.0)))) (put_back 1 p e)
            ∙ ap (λ qs. p ∷ (map (on_layer 1) r.0 ++ map (on_layer 2) qs)) (course_lasts (point_of p) r.1.course)
            ∙ ap (λ qs. p ∷ qs) r.2,
      )
  top (moves {p = p} {q = q} {ps = ps} o f (down l g h) t) e n =
      let k = way_down p e n h in
      let s = landed t (ap (field_landing C bytes) g ∙ k) in (
        point_of p ∷ [],
        record { landing = point_of p; to_landing = k; course = stops (on_map p o) refl },
        ap (λ x. x ∷ on_layer 2 (point_of p) ∷ []) (put_back 1 p e) ∙ ap (λ x. p ∷ x ∷ []) (sym g) ∙ ap (λ x. p ∷ x) (sym s),
      )

  -- what a trail from a place on the top reads as
  pub record Read (p : Place) (ps : List Place) : Type 0 where
    pub runs : Ran R C bytes (point_of p) (wire_through ps).points
    pub occupies : occupied (wire_through ps) ≡ ps

  reads : (p : Place) (ps : List Place) (w : Wire) → Ran R C bytes (point_of p) w.points → occupied w ≡ ps → lies_on (occupied w) ≡ w.layer → Read p ps
  reads p ps w r e l =
      let same : wire_through ps ≡ w = ap wire_through (sym e) ∙ read_back w l in
      record {
        runs = subst (λ (v : Wire). Ran R C bytes (point_of p) v.points) (sym same) r;
        occupies = ap occupied same ∙ e;
      }

  pub trail_reads : {p : Place} {ps : List Place} → Trail R C bytes p ps → p.layer ≡ 1 → Read p ps
  trail_reads (lands {p = p} o l) e = absurd (no_landing_above p e l)
  trail_reads (moves {p = p} {ps = ps} o f (along l b h) t) e =
      let r = top t (l ∙ e) h in
      reads p (p ∷ ps) (record { layer = Top; points = point_of p ∷ r.0 })
      (record { landing = r.1.landing; to_landing = r.1.to_landing; course = steps (on_map p o) b r.1.course })
      (ap (λ q. q ∷ (map (on_layer 1) r.0 ++ map (on_layer 2) (lasts (point_of p ∷ r.0)))) (put_back 1 p e)
      ∙ ap (λ qs. p ∷ (map (on_layer 1) r.0 ++ map (on_layer 2) qs)) (course_lasts (point_of p) r.1.course)
      ∙ ap (λ qs. p ∷ qs) r.2)
      (top_lies (point_of p) r.1.course)
  trail_reads (moves {p = p} {q = q} {ps = ps} o f (down l g h) t) e =
      let r = bottom t (ap (λ (x : Place). x.layer) g) in
      let same : point_of q ≡ point_of p = ap point_of g in
      reads p (p ∷ ps) (record { layer = Bottom; points = r.0 })
      (subst (λ (x : Point). Ran R C bytes x r.0) same r.1)
      (ap (λ qs. map (on_layer 1) qs ++ map (on_layer 2) r.0) (course_firsts r.1.course ∙ ap (λ x. x ∷ []) same)
      ∙ ap (λ x. x ∷ map (on_layer 2) r.0) (put_back 1 p e) ∙ ap (λ qs. p ∷ qs) r.2)
      (bottom_begins r.1.course)
