-- A lawful drawing of a field reads as a legal layout.
use Rattle.std.proofs.Common.{◌≡◌, ℕ, ◌*◌, ◌<◌, Bool, true, false, eqb, List, map, length, get_or, Some, sym, refl, ap, ◌∙◌, subst, inl, inr}
use Rattle.std.proofs.lemmas.Bool.{both_ways, and_parts, eqb-true}
use Rattle.boards.specs.declared.maps.MapKind.TheVariants.{FieldMap}
use Rattle.boards.specs.declared.place.Place.{Place}
use Rattle.boards.specs.Meaning.{landing_at}
use Rattle.boards.specs.Places.{nowhere}
use Rattle.boards.specs.Grids.{OnGrid, place_of, cell_of, grid_places}
use Rattle.boards.specs.Maps.{SidesAllowed, pad_point, byte_at, pad_place}
use Rattle.boards.specs.Fields.{field}
use Rattle.boards.specs.Meanings.{made_in}
use Rattle.boards.specs.Accepted.{accepted_sides}
use Rattle.boards.specs.GridsLemmas.{place_on_grid, cell_of_place}
use Rattle.linkages.specs.Lists.{Mem}
use Rattle.linkages.proofs.Members.{mem_at, mem_map, mem_of_map}
use Rattle.records.specs.declared.record.Record.{Record}
use Rattle.records.specs.Records.{record_at}
use Rattle.drawings.specs.Nets.{after_at, net_at, first_at, last_at, barred_at, wired, bars, net, Runs, ends, goes}
use Rattle.drawings.specs.Lawful.{Lawful}
use Rattle.drawings.proofs.Cells.{kept_below}
use Rattle.drawings.proofs.Said.{first_net, last_net, after_net, net_unbarred, net_inside}
use Rattle.drawings.proofs.Follow.{run_net, run_distinct, nets_apart}
use Rattle.drawings.proofs.Linking.{run_begins, next_after, wired_runs}
use Rattle.layouts.specs.declared.wires.Point.{Point}
use Rattle.layouts.specs.declared.wires.Layer.{Layer}
use Rattle.layouts.specs.declared.wires.Layer.TheVariants.{Top, Bottom}
use Rattle.layouts.specs.Layouts.{Course, Wire, WireOf, Legal, Different, on_layer, places_on, firsts, lasts, occupied}
use Rattle.layouts.specs.Readings.{point_of, wire_through, places_of, reading, layout_of}
use Rattle.layouts.specs.Theorems.{top_cell, point_at, Reads, DrawingsAreLayouts}
use Rattle.layouts.proofs.Laying.{first_or_next}
use Rattle.layouts.proofs.Differences.{distinct_to, different_left, different_right, different_unmap, different_map, map_alike, map_back}
use Rattle.layouts.proofs.Moves.{Move, along, down, place_eq, pad_is, landing_is, outlet_move}
use Rattle.layouts.proofs.Trails.{Trail, lands, moves, Read, trail_reads}

-- a wire has different points if it occupies different places
pub different_points : (w : Wire) → Different (occupied w) → Different w.points
different_points w d = go w.layer w.points d
  where
    go : (l : Layer) (ps : List Point) → Different (places_on l ps) → Different ps
    go Top ps d = different_unmap (on_layer 1) ps (different_left (map (on_layer 1) ps) (map (on_layer 2) (lasts ps)) d)
    go Bottom ps d = different_unmap (on_layer 2) ps (different_right (map (on_layer 1) (firsts ps)) (map (on_layer 2) ps) d)

-- a move does not lead into a pad
no_pad_after : (C : ℕ) (bytes : List ℕ) (p q : Place) → Move C bytes p q → pad_place C bytes q ≡ false
no_pad_after C bytes p q (along l n h) = h
no_pad_after C bytes p q (down l e h) = ap (pad_place C bytes) e

module _ (R C : ℕ) (bytes : List ℕ) (sides : SidesAllowed R C) where
  pub place_one : (c d : ℕ) → place_of R C c ≡ place_of R C d → c ≡ d
  place_one c d e = sym (cell_of_place R C sides.0 sides.2 c) ∙ ap (cell_of R C) e ∙ cell_of_place R C sides.0 sides.2 d

  -- the point of a pad, put back on the top, is the pad's place
  pub pad_top : (c : ℕ) → pad_place C bytes (place_of R C c) ≡ true → on_layer 1 (point_at R C c) ≡ place_of R C c
  pad_top c h =
      let e = eqb-true (place_of R C c).layer 1 (and_parts (eqb (place_of R C c).layer 1) (pad_point (byte_at C bytes (place_of R C c))) h).0 in
      place_eq (on_layer 1 (point_at R C c)) (place_of R C c) (sym e) refl refl

  pub pad_back : (c : ℕ) → pad_place C bytes (place_of R C c) ≡ true → top_cell R C (point_at R C c) ≡ c
  pad_back c h = ap (cell_of R C) (pad_top c h) ∙ cell_of_place R C sides.0 sides.2 c

  module _ (d : List Record) (W : Lawful (field R C bytes) d) where
    cell : (c : ℕ) → net_at d c ≡ true → c < 2 * (R * C)
    cell c h = subst (λ n. c < n) W.one_each (net_inside d c h)

    unlanded : (c t : ℕ) → after_at d c ≡ Some t → landing_at (field R C bytes) c ≡ false
    unlanded c t e = go (landing_at (field R C bytes) c) refl
      where
        go : (b : Bool) → landing_at (field R C bytes) c ≡ b → b ≡ false
        go true l = absurd (let n = after_net (record_at d c) t e in both_ways (last_at d c) n.1 ((W.local c).landing_is_last n.0 l))
        go false l = refl

    run_trail : {c : ℕ} {xs : List ℕ} → Runs d c xs → Trail R C bytes (place_of R C c) (map (place_of R C) xs)
    run_trail (ends {c = c} e) =
        let h = cell c (last_net (record_at d c) e).0 in
        lands (place_on_grid R C sides.0 sides.2 2 c h) (sym (landing_is R C bytes sides c h) ∙ (W.local c).last_is_landing e)
    run_trail (goes {c = c} {t = t} e r) =
        let h = cell c (after_net (record_at d c) t e).0 in
        moves (place_on_grid R C sides.0 sides.2 2 c h) (sym (landing_is R C bytes sides c h) ∙ unlanded c t e)
        (outlet_move R C bytes sides c t h ((W.local c).after_is_outlet t e)).1 (run_trail r)

    wired_first : (c : ℕ) → Mem c (wired d) → first_at d c ≡ true
    wired_first c i = (kept_below (first_at d) (length d) c i).1

    wired_cell : (c : ℕ) → Mem c (wired d) → c < 2 * (R * C)
    wired_cell c i = cell c (first_net (record_at d c) (wired_first c i))

    wired_pad : (c : ℕ) → Mem c (wired d) → pad_place C bytes (place_of R C c) ≡ true
    wired_pad c i = sym (pad_is R C bytes sides c (wired_cell c i)) ∙ (W.local c).first_is_pad (wired_first c i)

    net_places : (c : ℕ) → Mem c (wired d) → places_of (grid_places 2 R C) (net d c) ≡ map (place_of R C) (net d c)
    net_places c i =
        map_alike (λ x. get_or (grid_places 2 R C) x nowhere) (place_of R C) (net d c)
        (λ x k. made_in (place_of R C) (2 * (R * C)) nowhere x (cell x (run_net (wired_runs (field R C bytes) d W c i) k)))

    layout_is : (c : ℕ) → Mem c (wired d) → layout_of R C d (point_at R C c) ≡ wire_through (map (place_of R C) (net d c))
    layout_is c i = ap (reading (grid_places 2 R C) d) (pad_back c (wired_pad c i)) ∙ ap wire_through (net_places c i)

    read : (c : ℕ) → Mem c (wired d) → Read R C bytes (place_of R C c) (map (place_of R C) (net d c))
    read c i =
        let e = eqb-true (place_of R C c).layer 1 (and_parts (eqb (place_of R C c).layer 1) (pad_point (byte_at C bytes (place_of R C c))) (wired_pad c i)).0 in
        trail_reads R C bytes (run_trail (wired_runs (field R C bytes) d W c i)) e

    occupies : (c : ℕ) → Mem c (wired d) → occupied (layout_of R C d (point_at R C c)) ≡ map (place_of R C) (net d c)
    occupies c i = ap occupied (layout_is c i) ∙ (read c i).occupies

    is_wire : (c : ℕ) → Mem c (wired d) → WireOf R C bytes (point_at R C c) (layout_of R C d (point_at R C c))
    is_wire c i =
        let r = (read c i).runs in
        let w = layout_of R C d (point_at R C c) in
        let u = different_map (place_of R C) (net d c) (λ x y _ _. place_one x y) (distinct_to (net d c) (run_distinct (wired_runs (field R C bytes) d W c i))) in
        record {
          landing = r.landing;
          from_pad = (and_parts (eqb (place_of R C c).layer 1) (pad_point (byte_at C bytes (place_of R C c))) (wired_pad c i)).1;
          to_landing = r.to_landing;
          course = subst (λ (v : Wire). Course R C r.landing (point_at R C c) v.points) (sym (layout_is c i)) r.course;
          different = different_points w (subst Different (sym (occupies c i)) u);
        }

    -- what a wire occupies are the places of its net's cells
    cell_at : (c : ℕ) (o : Place) → Mem c (wired d) → Mem o (occupied (layout_of R C d (point_at R C c))) → (x : ℕ) × Mem x (net d c) × (o ≡ place_of R C x)
    cell_at c o i k = mem_of_map (place_of R C) o (net d c) (subst (Mem o) (occupies c i) k)

    -- a wired pad, by its point
    pad_at_point : (p : Point) → Mem p (map (point_at R C) (wired d)) → (c : ℕ) × Mem c (wired d) × (p ≡ point_at R C c)
    pad_at_point p i = mem_of_map (point_at R C) p (wired d) i

    on_wire : (p : Point) (o : Place) → Mem p (map (point_at R C) (wired d)) → Mem o (occupied (layout_of R C d p)) →
        (c : ℕ) × (x : ℕ) × Mem c (wired d) × (p ≡ point_at R C c) × Mem x (net d c) × (o ≡ place_of R C x)
    on_wire p o i k =
        let t = pad_at_point p i in
        let h = cell_at t.0 o t.1 (subst (λ (q : Point). Mem o (occupied (layout_of R C d q))) t.2 k) in
        (t.0, h.0, t.1, t.2, h.1, h.2)

    -- a net holds no pad but its first cell
    pad_first : (c x : ℕ) → Mem c (wired d) → Mem x (net d c) → pad_place C bytes (place_of R C x) ≡ true → x ≡ c
    pad_first c x i k h =
        let run = wired_runs (field R C bytes) d W c i in
        elim (first_or_next k) [
          | inl e ↦ e ∙ run_begins run
          | inr n ↦ (let a = next_after run n.1 in
              let b = cell n.0 (after_net (record_at d n.0) x a).0 in
              absurd (both_ways (pad_place C bytes (place_of R C x))
              (no_pad_after C bytes _ _ (outlet_move R C bytes sides n.0 x b ((W.local n.0).after_is_outlet x a)).1) h))
        ]

    legal : Legal R C bytes (map (point_at R C) (wired d)) (map (place_of R C) (bars d)) (layout_of R C d)
    legal = record {
      bars_on_map = λ b k.
          let t = mem_of_map (place_of R C) b (bars d) k in
          subst (OnGrid 2 R C) (sym t.2)
          (place_on_grid R C sides.0 sides.2 2 t.0 (subst (λ n. t.0 < n) W.one_each (kept_below (barred_at d) (length d) t.0 t.1).0));
      wires = λ p i.
          let t = pad_at_point p i in
          subst (λ (q : Point). WireOf R C bytes q (layout_of R C d q)) (sym t.2) (is_wire t.0 t.1);
      apart = λ p q o i j k l.
          let s = on_wire p o i k in
          let t = on_wire q o j l in
          let x = place_one s.1 t.1 (sym s.5 ∙ t.5) in
          let c = nets_apart (field R C bytes) d W.local s.0 t.0 s.1 (wired_first s.0 s.2) (wired_first t.0 t.2) s.4 (mem_at x t.4) in
          s.3 ∙ ap (point_at R C) c ∙ sym t.3;
      off_bars = λ p o i k b.
          let s = on_wire p o i k in
          let t = mem_of_map (place_of R C) o (bars d) b in
          let x = place_one s.1 t.0 (sym s.5 ∙ t.2) in
          both_ways (barred_at d s.1) (net_unbarred (record_at d s.1) (run_net (wired_runs (field R C bytes) d W s.0 s.2) s.4))
          (ap (barred_at d) x ∙ (kept_below (barred_at d) (length d) t.0 t.1).1);
      off_pads = λ p q i on h n k.
          let s = on_wire p (on_layer 1 q) i k in
          let e = pad_first s.0 s.1 s.2 s.4 (ap (pad_place C bytes) (sym s.5) ∙ h) in
          let same : q ≡ point_at R C s.0 = ap point_of s.5 ∙ ap (point_at R C) e in
          n (mem_at same (mem_map (point_at R C) s.2));
    }

    pub reads : Reads R C bytes d
    reads = record {
      legal = legal;
      read = λ c i. ap (reading (grid_places 2 R C) d) (pad_back c (wired_pad c i));
      occupies = λ c i. ap (map (cell_of R C)) (occupies c i) ∙ map_back (cell_of R C) (place_of R C) (net d c) (λ x _. cell_of_place R C sides.0 sides.2 x);
    }

pub drawings_are_layouts : DrawingsAreLayouts
drawings_are_layouts R C bytes d good W = reads R C bytes (accepted_sides FieldMap R C bytes good) d W
