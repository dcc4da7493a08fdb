-- A field's lawful drawings are exactly the legal layouts.
use Rattle.std.specs.Prelude.{◌≡◌, ℕ, ◌<◌, true, List, map}
use Rattle.boards.specs.declared.maps.MapKind.TheVariants.{FieldMap}
use Rattle.boards.specs.declared.place.Place.{Place}
use Rattle.boards.specs.Meaning.{Meaning, Bounded, pad_at}
use Rattle.boards.specs.Refusals.{NoneHolds}
use Rattle.boards.specs.Grids.{cell_of, place_of, grid_places}
use Rattle.boards.specs.Maps.{MapFault}
use Rattle.boards.specs.Fields.{field}
use Rattle.linkages.specs.Lists.{Mem, Same}
use Rattle.linkages.specs.Paths.{CanBeMet, Linkage, upto_landing}
use Rattle.records.specs.declared.record.Record.{Record}
use Rattle.drawings.specs.Nets.{wired, bars, net}
use Rattle.drawings.specs.Lawful.{Lawful}
use Rattle.drawings.specs.Conditions.{HasNoWay}
use Rattle.layouts.specs.declared.wires.Point.{Point}
use Rattle.layouts.specs.Layouts.{Wire, Legal, on_layer, occupied}
use Rattle.layouts.specs.Readings.{point_of, reading, layout_of}

-- the top cell of a point, and the point of a cell
abbrev pub top_cell : (R C : ℕ) → Point → ℕ
top_cell R C p = cell_of R C (on_layer 1 p)

abbrev pub point_at : (R C : ℕ) → ℕ → Point
point_at R C c = point_of (place_of R C c)

-- ---- drawings of linkages, on any board

-- the drawing lays a linkage: it wires its pads, has its bars, and each net is the pad's path as far as the first landing
pub record Lays (m : Meaning) (bars_met pads : List ℕ) (path : ℕ → List ℕ) (d : List Record) : Type 0 where
  pub lawful : Lawful m d
  pub same_pads : Same (wired d) pads
  pub same_bars : Same (bars d) bars_met
  pub nets : (q : ℕ) → Mem q pads → net d q ≡ upto_landing m (path q)

-- every linkage of pads under bars has a lawful drawing
abbrev pub LinkagesDraw : Type 0
LinkagesDraw = (m : Meaning) (bars_met pads : List ℕ) → Bounded m → ((c : ℕ) → Mem c bars_met → c < m.cells) →
    ((c : ℕ) → Mem c pads → pad_at m c ≡ true) → (L : Linkage m bars_met pads) →
    (d : List Record) × Lays m bars_met pads L.path d

-- ---- fields

abbrev pub IsFieldMap : (R C : ℕ) → List ℕ → Type 0
IsFieldMap R C bytes = NoneHolds (MapFault FieldMap R C bytes)

-- a lawful drawing of a field reads as a legal layout of its wired pads under its bars, and each wire occupies the cells of its net
pub record Reads (R C : ℕ) (bytes : List ℕ) (d : List Record) : Type 0 where
  pub legal : Legal R C bytes (map (point_at R C) (wired d)) (map (place_of R C) (bars d)) (layout_of R C d)
  -- the wire at a wired pad's point is the reading of the pad's net
  pub read : (c : ℕ) → Mem c (wired d) → layout_of R C d (point_at R C c) ≡ reading (grid_places 2 R C) d c
  pub occupies : (c : ℕ) → Mem c (wired d) → map (cell_of R C) (occupied (layout_of R C d (point_at R C c))) ≡ net d c

abbrev pub DrawingsAreLayouts : Type 0
DrawingsAreLayouts = (R C : ℕ) (bytes : List ℕ) (d : List Record) → IsFieldMap R C bytes → Lawful (field R C bytes) d → Reads R C bytes d

-- the drawing draws a layout: it is lawful, wires the same pads under the same bars, and each net holds the cells that its wire
-- occupies, up to the first landing cell
pub record Draws (R C : ℕ) (bytes : List ℕ) (pads : List Point) (barred : List Place) (layout : Point → Wire) (d : List Record) : Type 0 where
  pub lawful : Lawful (field R C bytes) d
  pub same_pads : Same (wired d) (map (top_cell R C) pads)
  pub same_bars : Same (bars d) (map (cell_of R C) barred)
  pub nets : (p : Point) → Mem p pads → net d (top_cell R C p) ≡ upto_landing (field R C bytes) (map (cell_of R C) (occupied (layout p)))

abbrev pub LayoutsAreDrawings : Type 0
LayoutsAreDrawings = (R C : ℕ) (bytes : List ℕ) (pads : List Point) (barred : List Place) (layout : Point → Wire) →
    IsFieldMap R C bytes → Legal R C bytes pads barred layout → (d : List Record) × Draws R C bytes pads barred layout d

-- so pads of a field can be met under bars exactly if there is a legal layout of them, and there is no way exactly if there is none
pub record MetByLayouts (R C : ℕ) (bytes : List ℕ) (bars_met pads : List ℕ) : Type 0 where
  pub met : CanBeMet (field R C bytes) bars_met pads →
      (layout : Point → Wire) × Legal R C bytes (map (point_at R C) pads) (map (place_of R C) bars_met) layout
  pub meets : (layout : Point → Wire) → Legal R C bytes (map (point_at R C) pads) (map (place_of R C) bars_met) layout →
      CanBeMet (field R C bytes) bars_met pads
  pub no_way : HasNoWay (field R C bytes) bars_met pads →
      (layout : Point → Wire) → Legal R C bytes (map (point_at R C) pads) (map (place_of R C) bars_met) layout → ⊥
  pub no_layout : ((layout : Point → Wire) → Legal R C bytes (map (point_at R C) pads) (map (place_of R C) bars_met) layout → ⊥) →
      HasNoWay (field R C bytes) bars_met pads

abbrev pub WaysAreLayouts : Type 0
WaysAreLayouts = (R C : ℕ) (bytes : List ℕ) (bars_met pads : List ℕ) → IsFieldMap R C bytes →
    ((c : ℕ) → Mem c bars_met → c < (field R C bytes).cells) → ((c : ℕ) → Mem c pads → pad_at (field R C bytes) c ≡ true) →
    MetByLayouts R C bytes bars_met pads

-- all of it
pub record FieldLayouts : Type 0 where
  pub drawings_are_layouts : DrawingsAreLayouts
  pub layouts_are_drawings : LayoutsAreDrawings
  pub ways_are_layouts : WaysAreLayouts
