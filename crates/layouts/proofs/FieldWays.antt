-- Pads of a field can be met exactly if there is a legal layout of them.
use Rattle.std.proofs.Common.{◌≡◌, ℕ, ◌<◌, true, List, map, sym, ◌∙◌}
use Rattle.boards.specs.declared.maps.MapKind.TheVariants.{FieldMap}
use Rattle.boards.specs.declared.place.Place.{Place}
use Rattle.boards.specs.Meaning.{pad_at}
use Rattle.boards.specs.Grids.{place_of, cell_of}
use Rattle.boards.specs.Maps.{SidesAllowed}
use Rattle.boards.specs.Fields.{field}
use Rattle.boards.specs.Accepted.{accepted_sides}
use Rattle.boards.specs.GridsLemmas.{cell_of_place}
use Rattle.linkages.specs.Lists.{Mem}
use Rattle.linkages.specs.Paths.{CanBeMet}
use Rattle.linkages.proofs.Members.{mem_at, mem_map, mem_of_map}
use Rattle.linkages.proofs.Fewer.{linkage_for_less}
use Rattle.linkages.proofs.OnBoard.{paths_stay_on_board}
use Rattle.layouts.specs.declared.wires.Point.{Point}
use Rattle.layouts.specs.Layouts.{Wire, Legal}
use Rattle.layouts.specs.Readings.{layout_of}
use Rattle.layouts.specs.Theorems.{top_cell, point_at, IsFieldMap, WaysAreLayouts, FieldLayouts}
use Rattle.layouts.proofs.Moves.{pad_is}
use Rattle.layouts.proofs.Linkages.{linkages_draw}
use Rattle.layouts.proofs.FieldDrawings.{pad_back, reads, drawings_are_layouts}
use Rattle.layouts.proofs.FieldLayouts.{field_bounded, links, layouts_are_drawings}

-- whether a layout is legal depends on the members of the lists
pub legal_by_members : {R C : ℕ} {bytes : List ℕ} {wired wired' : List Point} {bars bars' : List Place} {layout : Point → Wire} →
    ((p : Point) → Mem p wired → Mem p wired') → ((p : Point) → Mem p wired' → Mem p wired) → ((b : Place) → Mem b bars' → Mem b bars) →
    Legal R C bytes wired bars layout → Legal R C bytes wired' bars' layout
legal_by_members to from b G = record {
  bars_on_map = λ o k. G.bars_on_map o (b o k);
  wires = λ p i. G.wires p (from p i);
  apart = λ p q o i j. G.apart p q o (from p i) (from q j);
  off_bars = λ p o i k h. G.off_bars p o (from p i) k (b o h);
  off_pads = λ p q i on h n. G.off_pads p q (from p i) on h (λ k. n (to q k));
}

within_map : {E F : Type 0} (f : E → F) (xs ys : List E) → ((x : E) → Mem x xs → Mem x ys) → (y : F) → Mem y (map f xs) → Mem y (map f ys)
within_map f xs ys w y k = let t = mem_of_map f y xs k in mem_at t.2 (mem_map f (w t.0 t.1))

module _ (R C : ℕ) (bytes : List ℕ) (barred pads : List ℕ) (good : IsFieldMap R C bytes)
    (inside : (c : ℕ) → Mem c barred → c < (field R C bytes).cells) (are_pads : (c : ℕ) → Mem c pads → pad_at (field R C bytes) c ≡ true) where
  sides : SidesAllowed R C
  sides = accepted_sides FieldMap R C bytes good

  abbrev Layout : (Point → Wire) → Type 0
  Layout layout = Legal R C bytes (map (point_at R C) pads) (map (place_of R C) barred) layout

  met : CanBeMet (field R C bytes) barred pads → (layout : Point → Wire) × Layout layout
  met L =
      let h = linkages_draw (field R C bytes) barred pads (field_bounded R C bytes sides) inside are_pads L in (
        layout_of R C h.0,
        legal_by_members
            (within_map (point_at R C) _ pads h.1.same_pads.0)
            (within_map (point_at R C) pads _ h.1.same_pads.1)
            (within_map (place_of R C) barred _ h.1.same_bars.1)
            (reads R C bytes sides h.0 h.1.lawful).legal,
      )

  meets : (layout : Point → Wire) → Layout layout → CanBeMet (field R C bytes) barred pads
  meets layout G =
      linkage_for_less (field R C bytes) (map (cell_of R C) (map (place_of R C) barred)) barred (map (top_cell R C) (map (point_at R C) pads)) pads
      (λ c k.
      let below = paths_stay_on_board.pads_are_cells (field R C bytes) c (field_bounded R C bytes sides) (are_pads c k) in
      let e = pad_back R C bytes sides c (sym (pad_is R C bytes sides c below) ∙ are_pads c k) in
      mem_at (sym e) (mem_map (top_cell R C) (mem_map (point_at R C) k)))
      (λ c k. mem_at (sym (cell_of_place R C sides.0 sides.2 c)) (mem_map (cell_of R C) (mem_map (place_of R C) k)))
      (links R C bytes sides (map (point_at R C) pads) (map (place_of R C) barred) layout G)

pub ways_are_layouts : WaysAreLayouts
ways_are_layouts R C bytes barred pads good inside are_pads = record {
  met = met R C bytes barred pads good inside are_pads;
  meets = meets R C bytes barred pads good inside are_pads;
  no_way = λ n layout G. n (meets R C bytes barred pads good inside are_pads layout G);
  no_layout = λ n L. let h = met R C bytes barred pads good inside are_pads L in n h.0 h.1;
}

pub field_layouts : FieldLayouts
field_layouts = record {
  drawings_are_layouts = drawings_are_layouts;
  layouts_are_drawings = layouts_are_drawings;
  ways_are_layouts = ways_are_layouts;
}
