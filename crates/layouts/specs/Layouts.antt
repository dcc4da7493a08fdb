-- The two-layer pin redistribution problem, in points and layers: wires from pads to landings, and when a layout of them is legal.
-- R and C are the rows and columns of the map, and bytes tells of each point whether it holds a pad and whether it is a landing point.
use Rattle.std.specs.Prelude.{◌≡◌, ℕ, ◌+◌, ◌<◌, true, ◌⊎◌, List, [], ◌∷◌, ◌++◌, map}
use Rattle.boards.specs.declared.place.Place.{Place}
use Rattle.boards.specs.Grids.{OnGrid}
use Rattle.boards.specs.Maps.{pad_point, landing_point, byte_at}
use Rattle.linkages.specs.Lists.{Mem}
use Rattle.layouts.specs.declared.wires.Point.{Point}
use Rattle.layouts.specs.declared.wires.Layer.{Layer}
use Rattle.layouts.specs.declared.wires.Layer.TheVariants.{Top, Bottom}

-- the top is layer 1, the bottom layer 2
abbrev pub layer_number : Layer → ℕ
layer_number Top = 1
layer_number Bottom = 2

-- the place of a point on a layer
abbrev pub on_layer : ℕ → Point → Place
on_layer l p = record { layer = l; row = p.row; column = p.column }

abbrev pub OnMap : (R C : ℕ) → Point → Type 0
OnMap R C p = (p.row < R) × (p.column < C)

abbrev pub PadPoint : (C : ℕ) → List ℕ → Point → Type 0
PadPoint C bytes p = pad_point (byte_at C bytes (on_layer 1 p)) ≡ true

abbrev pub LandingPoint : (C : ℕ) → List ℕ → Point → Type 0
LandingPoint C bytes p = landing_point (byte_at C bytes (on_layer 2 p)) ≡ true

-- one row apart in the same column, or one column apart in the same row
abbrev pub Neighbours : Point → Point → Type 0
Neighbours p q =
    ((p.column ≡ q.column) × ((p.row ≡ q.row + 1) ⊎ (q.row ≡ p.row + 1)))
    ⊎ ((p.row ≡ q.row) × ((p.column ≡ q.column + 1) ⊎ (q.column ≡ p.column + 1)))

-- a course to the point z over neighbouring points of the map, given from its first point on
pub data Course (R C : ℕ) (z : Point) : Point → List Point → Type 0 where
  stops : {p : Point} → OnMap R C p → p ≡ z → Course R C z p (p ∷ [])
  steps : {p q : Point} {ps : List Point} → OnMap R C p → Neighbours p q → Course R C z q ps → Course R C z p (p ∷ ps)

-- nothing stands twice in the list
abbrev pub Different : {E : Type 0} → List E → Type 0
Different [] = Unit {0}
Different (x ∷ xs) = (Mem x xs → ⊥) × Different xs

-- a wire lies on one layer, and runs through points
pub record Wire : Type 0 where
  pub layer : Layer
  pub points : List Point

-- the wire is one of the pad at a point: it runs from there over different neighbouring points to a landing point.
-- A single point will do where it is both
pub record WireOf (R C : ℕ) (bytes : List ℕ) (pad : Point) (w : Wire) : Type 0 where
  pub landing : Point
  pub from_pad : PadPoint C bytes pad
  pub to_landing : LandingPoint C bytes landing
  pub course : Course R C landing pad w.points
  pub different : Different w.points

-- the first and the last of a list, if it has any
abbrev pub firsts : List Point → List Point
firsts [] = []
firsts (p ∷ ps) = p ∷ []

abbrev pub lasts : List Point → List Point
lasts [] = []
lasts (p ∷ []) = p ∷ []
lasts (p ∷ q ∷ ps) = lasts (q ∷ ps)

-- the places that a wire occupies, in the order from its pad to its landing: its points on its layer;
-- a layer-1 wire also its landing point on layer 2, and a layer-2 wire its pad point on layer 1
abbrev pub places_on : Layer → List Point → List Place
places_on Top ps = map (on_layer 1) ps ++ map (on_layer 2) (lasts ps)
places_on Bottom ps = map (on_layer 1) (firsts ps) ++ map (on_layer 2) ps

abbrev pub occupied : Wire → List Place
occupied w = places_on w.layer w.points

-- a layout gives each of the wired pads, known by their points, a wire. It is legal under bars, which are places of the map
pub record Legal (R C : ℕ) (bytes : List ℕ) (wired : List Point) (bars : List Place) (layout : Point → Wire) : Type 0 where
  pub bars_on_map : (b : Place) → Mem b bars → OnGrid 2 R C b
  -- each wired pad has a wire
  pub wires : (p : Point) → Mem p wired → WireOf R C bytes p (layout p)
  -- no place is occupied twice
  pub apart : (p q : Point) (o : Place) → Mem p wired → Mem q wired → Mem o (occupied (layout p)) → Mem o (occupied (layout q)) → p ≡ q
  -- no barred place is occupied
  pub off_bars : (p : Point) (o : Place) → Mem p wired → Mem o (occupied (layout p)) → Mem o bars → ⊥
  -- no top place of an unwired pad is occupied
  pub off_pads : (p q : Point) → Mem p wired → OnMap R C q → PadPoint C bytes q → (Mem q wired → ⊥) → Mem (on_layer 1 q) (occupied (layout p)) → ⊥
