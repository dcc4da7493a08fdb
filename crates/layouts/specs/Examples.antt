-- Small maps worked out by hand: what the theorems ask for can be met.
use Rattle.std.specs.Prelude.{◌≡◌, ℕ, List, [], ◌∷◌, Some, None}
use Rattle.boards.specs.Fields.{field}
use Rattle.boards.specs.SmallBoards.{three_points}
use Rattle.records.specs.declared.record.Record.{Record}
use Rattle.records.specs.declared.record.Record.TheVariants.{Free, Barred, Net}
use Rattle.drawings.specs.Lawful.{Lawful}
use Rattle.layouts.specs.declared.wires.Point.{Point}
use Rattle.layouts.specs.declared.wires.Layer.{Layer}
use Rattle.layouts.specs.declared.wires.Layer.TheVariants.{Top, Bottom}
use Rattle.layouts.specs.Layouts.{Wire, Legal, on_layer}
use Rattle.layouts.specs.Readings.{layout_of}
use Rattle.layouts.specs.Theorems.{IsFieldMap, Draws}

-- a point of the only row
abbrev pub spot : ℕ → Point
spot c = record { row = 0; column = c }

-- a layout whose only wire lies on the layer and runs through the points
abbrev pub one_wire : Layer → List Point → Point → Wire
one_wire l ps p = record { layer = l; points = ps }

-- ---- a pad in column 0, landing points in columns 1 and 2. Cells 0, 1, 2 lie on layer 1, and 3, 4, 5 below them

abbrev pub two_landings : List ℕ
two_landings = 1 ∷ 2 ∷ 2 ∷ []

-- the drawing of the wire on layer 2, which stops at the first landing: cells 0, 3, 4
abbrev pub stopped : List Record
stopped = Net None (Some 3) ∷ Free ∷ Free ∷ Net (Some 0) (Some 4) ∷ Net (Some 3) None ∷ Free ∷ []

-- the drawing of the wire on layer 1, with the first landing barred: cells 0, 1, 2, 5
abbrev pub passed_above : List Record
passed_above = Net None (Some 1) ∷ Net (Some 0) (Some 2) ∷ Net (Some 1) (Some 5) ∷ Free ∷ Barred ∷ Net (Some 2) None ∷ []

pub record PastALanding : Type 0 where
  pub is_map : IsFieldMap 1 3 two_landings
  -- on layer 2 a wire may pass over a landing, and its drawing stops there
  pub legal_below : Legal 1 3 two_landings (spot 0 ∷ []) [] (one_wire Bottom (spot 0 ∷ spot 1 ∷ spot 2 ∷ []))
  pub draws_below : Draws 1 3 two_landings (spot 0 ∷ []) [] (one_wire Bottom (spot 0 ∷ spot 1 ∷ spot 2 ∷ [])) stopped
  pub reads_below : layout_of 1 3 stopped (spot 0) ≡ one_wire Bottom (spot 0 ∷ spot 1 ∷ []) (spot 0)
  -- on layer 1 it passes above the landing, and its drawing runs on
  pub legal_above : Legal 1 3 two_landings (spot 0 ∷ []) (on_layer 2 (spot 1) ∷ []) (one_wire Top (spot 0 ∷ spot 1 ∷ spot 2 ∷ []))
  pub draws_above : Draws 1 3 two_landings (spot 0 ∷ []) (on_layer 2 (spot 1) ∷ []) (one_wire Top (spot 0 ∷ spot 1 ∷ spot 2 ∷ [])) passed_above
  pub reads_above : layout_of 1 3 passed_above (spot 0) ≡ one_wire Top (spot 0 ∷ spot 1 ∷ spot 2 ∷ []) (spot 0)

-- ---- one point that holds a pad and is a landing point: cell 0, and cell 1 below it

abbrev pub one_point : List ℕ
one_point = 3 ∷ []

abbrev pub straight_down : List Record
straight_down = Net None (Some 1) ∷ Net (Some 0) None ∷ []

pub record PadOnALanding : Type 0 where
  pub is_map : IsFieldMap 1 1 one_point
  -- a wire of this single point will do, on either layer; both have one drawing, which reads as the wire on layer 2
  pub legal : (l : Layer) → Legal 1 1 one_point (spot 0 ∷ []) [] (one_wire l (spot 0 ∷ []))
  pub draws : (l : Layer) → Draws 1 1 one_point (spot 0 ∷ []) [] (one_wire l (spot 0 ∷ [])) straight_down
  pub reads : layout_of 1 1 straight_down (spot 0) ≡ one_wire Bottom (spot 0 ∷ []) (spot 0)

-- ---- pads in columns 0 and 1, a landing point in column 2

-- from pad 0 along layer 1 to the other pad's point, down there, and along layer 2 to the landing: cells 0, 1, 4, 5
abbrev pub down_at_another : List Record
down_at_another = Net None (Some 1) ∷ Net (Some 0) (Some 4) ∷ Free ∷ Free ∷ Net (Some 1) (Some 5) ∷ Net (Some 4) None ∷ []

pub record DownAtAnotherPad : Type 0 where
  pub is_map : IsFieldMap 1 3 three_points
  pub not_lawful : Lawful (field 1 3 three_points) down_at_another → ⊥
