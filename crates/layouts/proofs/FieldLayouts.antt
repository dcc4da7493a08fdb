-- A legal layout has a lawful drawing.
use Rattle.std.proofs.Common.{◌≡◌, ℕ, ◌*◌, ◌<◌, ◌≤◌, Bool, true, false, ◌||◌, ◌⊎◌, List, [], ◌∷◌, ◌++◌, map, sym, refl, ap, ◌∙◌, subst, inl, inr, arith}
use native.Mathlib.Decide.{ℕ_discrete}
use Rattle.std.proofs.lemmas.Nat.{mul-le}
use Rattle.std.proofs.lemmas.Bool.{or_left, or_right}
use Rattle.boards.specs.declared.maps.MapKind.TheVariants.{FieldMap}
use Rattle.boards.specs.declared.place.Place.{Place}
use Rattle.boards.specs.Meaning.{Meaning, Bounded, pad_at}
use Rattle.boards.specs.Grids.{OnGrid, place_of, cell_of}
use Rattle.boards.specs.Maps.{SidesAllowed, pad_place, pad_point, landing_point, byte_at}
use Rattle.boards.specs.Fields.{field, field_steps, field_landing}
use Rattle.boards.specs.Accepted.{accepted_sides}
use Rattle.boards.specs.GridsLemmas.{cell_below, place_of_cell}
use Rattle.boards.specs.MapBoards.{map_bounded}
use Rattle.linkages.specs.Lists.{Mem, here, there, Distinct}
use Rattle.linkages.specs.Paths.{Landing, Unbarred, Walk, stop, step, Linkage, upto_landing}
use Rattle.linkages.proofs.Members.{mem_none, mem_cases, mem_at, mem_front, mem_map, mem_of_map}
use Rattle.records.specs.declared.record.Record.{Record}
use Rattle.drawings.specs.Nets.{last_of}
use Rattle.drawings.proofs.Members.{mem_append_right, mem_append_cases}
use Rattle.layouts.specs.declared.wires.Point.{Point}
use Rattle.layouts.specs.declared.wires.Layer.{Layer}
use Rattle.layouts.specs.declared.wires.Layer.TheVariants.{Top, Bottom}
use Rattle.layouts.specs.Layouts.{Course, stops, steps, Wire, Legal, Different, PadPoint, LandingPoint, OnMap, on_layer, places_on, firsts, lasts, occupied}
use Rattle.layouts.specs.Readings.{point_of}
use Rattle.layouts.specs.Theorems.{top_cell, point_at, Draws, LayoutsAreDrawings}
use Rattle.layouts.proofs.Differences.{distinct_from, different_append, different_map}
use Rattle.layouts.proofs.Moves.{point_eq, along, down, pad_is, landing_is, move_outlet}
use Rattle.layouts.proofs.Trails.{course_firsts, course_lasts}
use Rattle.layouts.proofs.Linkages.{linkages_draw}

-- ---- points

point_discrete : (p q : Point) → Dec (p ≡ q)
point_discrete p q = go (ℕ_discrete p.row q.row) (ℕ_discrete p.column q.column)
  where
    go : Dec (p.row ≡ q.row) → Dec (p.column ≡ q.column) → Dec (p ≡ q)
    go (yes e) (yes f) = yes (point_eq p q e f)
    go (no n) d = no (λ e. n (ap (λ (x : Point). x.row) e))
    go (yes e) (no n) = no (λ f. n (ap (λ (x : Point). x.column) f))

dec_point : (p : Point) (ps : List Point) → Dec (Mem p ps)
dec_point p [] = no mem_none
dec_point p (q ∷ ps) = try (point_discrete p q) (dec_point p ps)
  where
    try : Dec (p ≡ q) → Dec (Mem p ps) → Dec (Mem p (q ∷ ps))
    try (yes e) d = yes (here e)
    try (no n) (yes k) = yes (there k)
    try (no n) (no k) = no (λ h. elim (mem_cases h) [ inl e ↦ n e | inr i ↦ k i ])

-- all but the first
rest : List Point → List Point
rest [] = []
rest (p ∷ ps) = ps

mem_rest : {q : Point} (ps : List Point) → Mem q (rest ps) → Mem q ps
unfolding rest
mem_rest [] k = k
mem_rest (p ∷ ps) k = there k

mem_firsts : {q : Point} (ps : List Point) → Mem q (firsts ps) → Mem q ps
mem_firsts [] k = k
mem_firsts (p ∷ ps) (here e) = here e
mem_firsts (p ∷ ps) (there k) = absurd (mem_none k)

mem_lasts : {q : Point} (ps : List Point) → Mem q (lasts ps) → Mem q ps
mem_lasts [] k = k
mem_lasts (p ∷ []) k = k
mem_lasts (p ∷ q ∷ ps) k = there (mem_lasts (q ∷ ps) k)

firsts_differ : (ps : List Point) → Different (firsts ps)
firsts_differ [] = tt
firsts_differ (p ∷ ps) = (mem_none, tt)

lasts_differ : (ps : List Point) → Different (lasts ps)
lasts_differ [] = tt
lasts_differ (p ∷ []) = (mem_none, tt)
lasts_differ (p ∷ q ∷ ps) = lasts_differ (q ∷ ps)

course_start : {R C : ℕ} {z p : Point} {ps : List Point} → Course R C z p ps → OnMap R C p
course_start (stops o e) = o
course_start (steps o n c) = o

course_head : {R C : ℕ} {z p : Point} {ps : List Point} → Course R C z p ps → Mem p ps
course_head (stops o e) = here refl
course_head (steps o n c) = here refl

course_on_map : {R C : ℕ} {z p q : Point} {ps : List Point} → Course R C z p ps → Mem q ps → OnMap R C q
course_on_map {R} {C} (stops o e) (here f) = subst (OnMap R C) (sym f) o
course_on_map (stops o e) (there k) = absurd (mem_none k)
course_on_map {R} {C} (steps o n c) (here f) = subst (OnMap R C) (sym f) o
course_on_map (steps o n c) (there k) = course_on_map c k

course_last : {R C : ℕ} {z p : Point} {ps : List Point} → Course R C z p ps → Mem z (lasts ps)
course_last (stops o e) = here (sym e)
course_last {z = z} (steps {p = p} o n c) = subst (Mem z) (sym (course_lasts p c)) (course_last c)

-- the first point does not come again
course_rest : {R C : ℕ} {z p q : Point} {ps : List Point} → Course R C z p ps → Different ps → Mem q (rest ps) → p ≡ q → ⊥
unfolding rest
course_rest (stops o e) d k f = mem_none k
course_rest (steps o n c) d k f = d.0 (mem_at f k)

-- ---- what a wire occupies

on_layer_one : (l : ℕ) (p q : Point) → on_layer l p ≡ on_layer l q → p ≡ q
on_layer_one l p q e = ap point_of e

layers_apart : (ps qs : List Point) (o : Place) → Mem o (map (on_layer 1) ps) → Mem o (map (on_layer 2) qs) → ⊥
layers_apart ps qs o j k =
    let s = mem_of_map (on_layer 1) o ps j in
    let t = mem_of_map (on_layer 2) o qs k in
    let e : ◌≡◌ {A = ℕ} 1 2 = ap (λ (x : Place). x.layer) (sym s.2 ∙ t.2) in
    let z : ⊥ = omega arith in z

occupied_differ : (l : Layer) (ps : List Point) → Different ps → Different (places_on l ps)
occupied_differ Top ps d =
    different_append (map (on_layer 1) ps) (map (on_layer 2) (lasts ps)) (different_map (on_layer 1) ps (λ x y _ _. on_layer_one 1 x y) d)
    (different_map (on_layer 2) (lasts ps) (λ x y _ _. on_layer_one 2 x y) (lasts_differ ps)) (layers_apart ps (lasts ps))
occupied_differ Bottom ps d =
    different_append (map (on_layer 1) (firsts ps)) (map (on_layer 2) ps) (different_map (on_layer 1) (firsts ps) (λ x y _ _. on_layer_one 1 x y) (firsts_differ ps))
    (different_map (on_layer 2) ps (λ x y _ _. on_layer_one 2 x y) d) (layers_apart (firsts ps) ps)

-- the top of the pad is occupied
pad_occupied : {R C : ℕ} {z p : Point} {ps : List Point} (l : Layer) → Course R C z p ps → Mem (on_layer 1 p) (places_on l ps)
pad_occupied {ps = ps} Top c = mem_front (map (on_layer 2) (lasts ps)) (mem_map (on_layer 1) (course_head c))
pad_occupied {p = p} {ps = ps} Bottom c =
    mem_front (map (on_layer 2) ps) (mem_map (on_layer 1) (subst (Mem p) (sym (course_firsts c)) (here refl)))

-- each occupied place is a point of the course, on layer 1 or 2
point_occupied : (l : Layer) (ps : List Point) (o : Place) → Mem o (places_on l ps) → (q : Point) × Mem q ps × ((o ≡ on_layer 1 q) ⊎ (o ≡ on_layer 2 q))
point_occupied Top ps o k = elim (mem_append_cases (map (on_layer 1) ps) k) [
  | inl h ↦ (let t = mem_of_map (on_layer 1) o ps h in (t.0, t.1, inl t.2))
  | inr h ↦ (let t = mem_of_map (on_layer 2) o (lasts ps) h in (t.0, mem_lasts ps t.1, inr t.2))
]
point_occupied Bottom ps o k = elim (mem_append_cases (map (on_layer 1) (firsts ps)) k) [
  | inl h ↦ (let t = mem_of_map (on_layer 1) o (firsts ps) h in (t.0, mem_firsts ps t.1, inl t.2))
  | inr h ↦ (let t = mem_of_map (on_layer 2) o ps h in (t.0, t.1, inr t.2))
]

walk_last_of : {m : Meaning} {bars : List ℕ} {z a : ℕ} {xs : List ℕ} (k : ℕ) → Walk m bars z a xs → last_of k xs ≡ z
walk_last_of k (stop f e) = e
walk_last_of k (step {a = a} f o w) = walk_last_of a w

module _ (R C : ℕ) (bytes : List ℕ) (sides : SidesAllowed R C) where
  on_grid : (l : ℕ) (p : Point) → 1 ≤ l → l ≤ 2 → OnMap R C p → OnGrid 2 R C (on_layer l p)
  on_grid l p f t o = record { layer_from = f; layer_to = t; row_to = o.0; column_to = o.1 }

  top_on : (p : Point) → OnMap R C p → OnGrid 2 R C (on_layer 1 p)
  top_on p = on_grid 1 p (omega arith) (omega arith)

  bottom_on : (p : Point) → OnMap R C p → OnGrid 2 R C (on_layer 2 p)
  bottom_on p = on_grid 2 p (omega arith) (omega arith)

  cell_one : (p q : Place) → OnGrid 2 R C p → OnGrid 2 R C q → cell_of R C p ≡ cell_of R C q → p ≡ q
  cell_one p q f g e = sym (place_of_cell R C sides.0 sides.2 2 p f) ∙ ap (place_of R C) e ∙ place_of_cell R C sides.0 sides.2 2 q g

  pub field_bounded : Bounded (field R C bytes)
  field_bounded =
      map_bounded 2 R C bytes field_steps (field_landing C bytes) (omega arith) (omega arith) (omega (arith, mul-le 2 (R * C) 2 2048 (omega arith) sides.4)) sides (omega arith)

  -- the point of the top cell of a point is the point
  pub point_back : (p : Point) → OnMap R C p → point_at R C (top_cell R C p) ≡ p
  point_back p o = ap point_of (place_of_cell R C sides.0 sides.2 2 (on_layer 1 p) (top_on p o))

  landing_cell : (p : Point) → OnMap R C p → LandingPoint C bytes p → Landing (field R C bytes) (cell_of R C (on_layer 2 p))
  landing_cell p o l =
      landing_is R C bytes sides (cell_of R C (on_layer 2 p)) (cell_below R C sides.0 sides.2 2 (on_layer 2 p) (bottom_on p o))
      ∙ ap (field_landing C bytes) (place_of_cell R C sides.0 sides.2 2 (on_layer 2 p) (bottom_on p o)) ∙ l

  pad_cell : (p : Point) → OnMap R C p → PadPoint C bytes p → pad_at (field R C bytes) (top_cell R C p) ≡ true
  pad_cell p o h =
      pad_is R C bytes sides (top_cell R C p) (cell_below R C sides.0 sides.2 2 (on_layer 1 p) (top_on p o))
      ∙ ap (pad_place C bytes) (place_of_cell R C sides.0 sides.2 2 (on_layer 1 p) (top_on p o)) ∙ h

  -- ---- courses are walks

  module _ (barred : List ℕ) where
    abbrev Clear : ℕ → Point → Type 0
    Clear l p = Unbarred barred (cell_of R C (on_layer l p))

    walk_bottom : {z p : Point} {ps : List Point} → Course R C z p ps → ((q : Point) → Mem q ps → Clear 2 q) →
        Walk (field R C bytes) barred (cell_of R C (on_layer 2 z)) (cell_of R C (on_layer 2 p)) (map (cell_of R C) (map (on_layer 2) ps))
    walk_bottom (stops {p = p} o e) f = stop (f p (here refl)) (ap (λ q. cell_of R C (on_layer 2 q)) e)
    walk_bottom (steps {p = p} {q = q} o n c) f =
        step (f p (here refl)) (move_outlet R C bytes sides (on_layer 2 p) (on_layer 2 q) (bottom_on p o) (bottom_on q (course_start c)) (along refl n refl))
        (walk_bottom c (λ r k. f r (there k)))

    -- from layer 1 to layer 2 at a pad point or a landing point
    walk_down : {z : ℕ} {xs : List ℕ} (p : Point) → OnMap R C p → (pad_point (byte_at C bytes (on_layer 1 p)) || landing_point (byte_at C bytes (on_layer 1 p))) ≡ true →
        Clear 1 p → Walk (field R C bytes) barred z (cell_of R C (on_layer 2 p)) xs → Walk (field R C bytes) barred z (cell_of R C (on_layer 1 p)) (cell_of R C (on_layer 1 p) ∷ xs)
    walk_down p o h f w = step f (move_outlet R C bytes sides (on_layer 1 p) (on_layer 2 p) (top_on p o) (bottom_on p o) (down refl refl h)) w

    walk_top : {z p : Point} {ps : List Point} → Course R C z p ps → ((q : Point) → Mem q ps → Clear 1 q) → Clear 2 z → LandingPoint C bytes z →
        ((q : Point) → Mem q (rest ps) → pad_point (byte_at C bytes (on_layer 1 q)) ≡ false) →
        Walk (field R C bytes) barred (cell_of R C (on_layer 2 z)) (cell_of R C (on_layer 1 p)) (map (cell_of R C) (places_on Top ps))
    unfolding rest
    walk_top {z} (stops {p = p} o e) f g l n =
        walk_down p o (or_right _ _ (subst (LandingPoint C bytes) (sym e) l)) (f p (here refl))
        (stop (subst (λ q. Clear 2 q) (sym e) g) (ap (λ q. cell_of R C (on_layer 2 q)) e))
    walk_top {z} (steps {p = p} {q = q} {ps = ps} o b c) f g l n =
        let w = walk_top c (λ r k. f r (there k)) g l (λ r k. n r (mem_rest ps k)) in
        let e : map (cell_of R C) (places_on Top ps) ≡ map (cell_of R C) (map (on_layer 1) ps ++ map (on_layer 2) (lasts (p ∷ ps))) =
        ap (λ qs. map (cell_of R C) (map (on_layer 1) ps ++ map (on_layer 2) qs)) (sym (course_lasts p c)) in
        step (f p (here refl)) (move_outlet R C bytes sides (on_layer 1 p) (on_layer 1 q) (top_on p o) (top_on q (course_start c)) (along refl b (n q (course_head c))))
        (subst (Walk (field R C bytes) barred (cell_of R C (on_layer 2 z)) (cell_of R C (on_layer 1 q))) e w)

  -- ---- a legal layout is a linkage

  module _ (wired : List Point) (bars : List Place) (layout : Point → Wire) (G : Legal R C bytes wired bars layout) where
    barred : List ℕ
    barred = map (cell_of R C) bars

    abbrev cells_of : Point → List ℕ
    cells_of p = map (cell_of R C) (occupied (layout p))

    occupied_on : (p : Point) (o : Place) → Mem p wired → Mem o (occupied (layout p)) → OnGrid 2 R C o
    occupied_on p o i k =
        let t = point_occupied (layout p).layer (layout p).points o k in
        let h = course_on_map (G.wires p i).course t.1 in
        elim t.2 [
          | inl e ↦ subst (OnGrid 2 R C) (sym e) (top_on t.0 h)
          | inr e ↦ subst (OnGrid 2 R C) (sym e) (bottom_on t.0 h)
        ]

    clear : (p : Point) (o : Place) → Mem p wired → Mem o (occupied (layout p)) → Unbarred barred (cell_of R C o)
    unfolding barred
    clear p o i k b =
        let t = mem_of_map (cell_of R C) (cell_of R C o) bars b in
        let e = cell_one o t.0 (occupied_on p o i k) (G.bars_on_map t.0 t.1) t.2 in
        G.off_bars p o i k (mem_at e t.1)

    -- a wire on the top passes no pad
    no_pads : (p : Point) → Mem p wired → (q : Point) → Mem q (rest (layout p).points) → Mem (on_layer 1 q) (occupied (layout p)) →
        pad_point (byte_at C bytes (on_layer 1 q)) ≡ false
    no_pads p i q k h = go (pad_point (byte_at C bytes (on_layer 1 q))) refl (dec_point q wired)
      where
        go : (b : Bool) → pad_point (byte_at C bytes (on_layer 1 q)) ≡ b → Dec (Mem q wired) → b ≡ false
        go false e d = refl
        go true e (yes j) =
            absurd (course_rest (G.wires p i).course (G.wires p i).different k
            (G.apart p q (on_layer 1 q) i j h (pad_occupied (layout q).layer (G.wires q j).course)))
        go true e (no n) = absurd (G.off_pads p q i (course_on_map (G.wires p i).course (mem_rest (layout p).points k)) e n h)

    wire_walk : (p : Point) (i : Mem p wired) →
        Walk (field R C bytes) barred (cell_of R C (on_layer 2 (G.wires p i).landing)) (top_cell R C p) (cells_of p)
    wire_walk p i = go (layout p).layer (layout p).points (G.wires p i).course (clear p) (no_pads p i)
      where
        go : (l : Layer) (ps : List Point) → Course R C (G.wires p i).landing p ps → ((o : Place) → Mem p wired → Mem o (places_on l ps) → Unbarred barred (cell_of R C o)) →
            ((q : Point) → Mem q (rest ps) → Mem (on_layer 1 q) (places_on l ps) → pad_point (byte_at C bytes (on_layer 1 q)) ≡ false) →
            Walk (field R C bytes) barred (cell_of R C (on_layer 2 (G.wires p i).landing)) (top_cell R C p) (map (cell_of R C) (places_on l ps))
        go Top ps c f n =
            let own : (q : Point) → Mem q ps → Mem (on_layer 1 q) (places_on Top ps) = λ q k. mem_front (map (on_layer 2) (lasts ps)) (mem_map (on_layer 1) k) in
            walk_top barred c (λ q k. f (on_layer 1 q) i (own q k))
            (f (on_layer 2 (G.wires p i).landing) i (mem_append_right (map (on_layer 1) ps) (mem_map (on_layer 2) (course_last c))))
            (G.wires p i).to_landing (λ q k. n q k (own q (mem_rest ps k)))
        go Bottom ps c f n =
            let w = walk_bottom barred c (λ q k. f (on_layer 2 q) i (mem_append_right (map (on_layer 1) (firsts ps)) (mem_map (on_layer 2) k))) in
            let d = walk_down barred p (course_start c) (or_left _ _ (G.wires p i).from_pad) (f (on_layer 1 p) i (pad_occupied Bottom c)) w in
            subst (λ (qs : List Point). Walk (field R C bytes) barred (cell_of R C (on_layer 2 (G.wires p i).landing)) (top_cell R C p) (map (cell_of R C) (map (on_layer 1) qs ++ map (on_layer 2) ps)))
            (sym (course_firsts c)) d

    -- the cells that the wire of a pad occupies, by the pad's cell
    path : ℕ → List ℕ
    path c = cells_of (point_at R C c)

    record Pad (c : ℕ) : Type 0 where
      point : Point
      is_wired : Mem point wired
      cell_is : c ≡ top_cell R C point
      point_is : point_at R C c ≡ point

    pad_of : (c : ℕ) → Mem c (map (top_cell R C) wired) → Pad c
    pad_of c k =
        let t = mem_of_map (top_cell R C) c wired k in
        record {
          point = t.0;
          is_wired = t.1;
          cell_is = t.2;
          point_is = ap (point_at R C) t.2 ∙ point_back t.0 (course_start (G.wires t.0 t.1).course);
        }

    path_is : (c : ℕ) (h : Pad c) → path c ≡ cells_of h.point
    unfolding path
    path_is c h = ap cells_of h.point_is

    path_walk : (c : ℕ) (h : Pad c) → Walk (field R C bytes) barred (cell_of R C (on_layer 2 (G.wires h.point h.is_wired).landing)) c (path c)
    path_walk c h =
        let z = cell_of R C (on_layer 2 (G.wires h.point h.is_wired).landing) in
        subst (Walk (field R C bytes) barred z c) (sym (path_is c h))
        (subst (λ (a : ℕ). Walk (field R C bytes) barred z a (cells_of h.point)) (sym h.cell_is) (wire_walk h.point h.is_wired))

    -- no two of the places that a wire occupies have one cell
    cells_differ : (p : Point) → Mem p wired → Different (cells_of p)
    cells_differ p i =
        different_map (cell_of R C) (occupied (layout p)) (λ x y j k. cell_one x y (occupied_on p x i j) (occupied_on p y i k))
        (occupied_differ (layout p).layer (layout p).points (G.wires p i).different)

    linkage : Linkage (field R C bytes) barred (map (top_cell R C) wired)
    linkage = record {
      path = path;
      end = λ c. last_of 0 (path c);
      runs = λ c k.
          let h = pad_of c k in
          let w = path_walk c h in
          record {
            walk = subst (λ (z : ℕ). Walk (field R C bytes) barred z c (path c)) (sym (walk_last_of 0 w)) w;
            distinct = subst Distinct (sym (path_is c h)) (distinct_from (cells_of h.point) (cells_differ h.point h.is_wired));
          };
      lands = λ c k.
          let h = pad_of c k in
          let g = G.wires h.point h.is_wired in
          subst (Landing (field R C bytes)) (sym (walk_last_of 0 (path_walk c h)))
          (landing_cell g.landing (course_on_map g.course (mem_lasts (layout h.point).points (course_last g.course))) g.to_landing);
      apart = λ c d x k l i j.
          let g = pad_of c k in
          let h = pad_of d l in
          let s = mem_of_map (cell_of R C) x (occupied (layout g.point)) (subst (Mem x) (path_is c g) i) in
          let t = mem_of_map (cell_of R C) x (occupied (layout h.point)) (subst (Mem x) (path_is d h) j) in
          let o = cell_one s.0 t.0 (occupied_on g.point s.0 g.is_wired s.1) (occupied_on h.point t.0 h.is_wired t.1) (sym s.2 ∙ t.2) in
          g.cell_is ∙ ap (top_cell R C) (G.apart g.point h.point s.0 g.is_wired h.is_wired s.1 (mem_at o t.1)) ∙ sym h.cell_is;
    }

    barred_cells : (c : ℕ) → Mem c barred → c < 2 * (R * C)
    unfolding barred
    barred_cells c k =
        let t = mem_of_map (cell_of R C) c bars k in
        subst (λ (x : ℕ). x < 2 * (R * C)) (sym t.2) (cell_below R C sides.0 sides.2 2 t.0 (G.bars_on_map t.0 t.1))

    pads_are_pads : (c : ℕ) → Mem c (map (top_cell R C) wired) → pad_at (field R C bytes) c ≡ true
    pads_are_pads c k =
        let h = pad_of c k in
        let g = G.wires h.point h.is_wired in
        ap (pad_at (field R C bytes)) h.cell_is ∙ pad_cell h.point (course_start g.course) g.from_pad

    pub draws : (d : List Record) × Draws R C bytes wired bars layout d
    unfolding barred path linkage
    draws =
        let h = linkages_draw (field R C bytes) barred (map (top_cell R C) wired) field_bounded barred_cells pads_are_pads linkage in (
          h.0,
          record {
            lawful = h.1.lawful;
            same_pads = h.1.same_pads;
            same_bars = h.1.same_bars;
            nets = λ p i.
                h.1.nets (top_cell R C p) (mem_map (top_cell R C) i)
                ∙ ap (λ q. upto_landing (field R C bytes) (cells_of q)) (point_back p (course_start (G.wires p i).course));
          },
        )

    pub links : Linkage (field R C bytes) (map (cell_of R C) bars) (map (top_cell R C) wired)
    unfolding barred
    links = linkage

pub layouts_are_drawings : LayoutsAreDrawings
layouts_are_drawings R C bytes wired bars layout good G = draws R C bytes (accepted_sides FieldMap R C bytes good) wired bars layout G
