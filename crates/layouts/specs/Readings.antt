-- Reading a drawing as a layout.
use Rattle.std.specs.Prelude.{◌≡◌, ℕ, ◌+◌, ◌<◌, Bool, cond, ◌&&◌, ◌⊎◌, List, [], ◌∷◌, ◌++◌, map, length, drop, filter, ◌==◌, nat_eq, slice_index_or}
use Rattle.boards.specs.declared.place.Place.{Place}
use Rattle.boards.specs.Meaning.{Meaning}
use Rattle.boards.specs.Places.{nowhere}
use Rattle.boards.specs.Grids.{cell_of, grid_places}
use Rattle.records.specs.declared.record.Record.{Record}
use Rattle.drawings.specs.Nets.{net}
use Rattle.drawings.specs.Conditions.{IsWrongDrawing, IsNotLawful, IsNoSuchCell, IsNotPad, IsNotWired}
use Rattle.layouts.specs.declared.wires.Point.{Point}
use Rattle.layouts.specs.declared.wires.Layer.{Layer}
use Rattle.layouts.specs.declared.wires.Layer.TheVariants.{Top, Bottom}
use Rattle.layouts.specs.Layouts.{Wire, layer_number, on_layer}

abbrev pub point_of : Place → Point
point_of p = record { row = p.row; column = p.column }

-- whether q lies right below p
abbrev pub right_below : Place → Place → Bool
right_below p q = q.layer == p.layer + 1 && (q.row == p.row && q.column == p.column)

-- a net lies on layer 2 if its second cell is the one below its pad, else on layer 1
abbrev pub lies_on : List Place → Layer
lies_on [] = Top
lies_on (p ∷ []) = Top
lies_on (p ∷ q ∷ ps) = cond (right_below p q) Bottom Top

-- the points of those of the places that lie on the layer, in their order
abbrev pub points_on : Layer → List Place → List Point
points_on l ps = map point_of (filter (λ p. nat_eq p.layer (layer_number l)) ps)

-- the wire of a net that runs through the places
abbrev pub wire_through : List Place → Wire
wire_through ps = record { layer = lies_on ps; points = points_on (lies_on ps) ps }

-- the places of cells, given the places of all cells by number
abbrev pub places_of : List Place → List ℕ → List Place
places_of places cells = map (λ c. slice_index_or places c nowhere) cells

-- the wire that the net of a pad reads as
abbrev pub reading : List Place → List Record → ℕ → Wire
reading places d c = wire_through (places_of places (net d c))

-- the layout that a field's drawing reads as: for a pad at a point the reading of its net
abbrev pub layout_of : (R C : ℕ) → List Record → Point → Wire
layout_of R C d p = reading (grid_places 2 R C) d (cell_of R C (on_layer 1 p))

-- ---- what the reading call answers

-- points written to the front of a list
abbrev pub points_written : List Point → List Point → List Point
points_written xs ys = xs ++ drop (length xs) ys

-- the layer of the wire and the number of its points, which stand at the front of the list that was lent; the rest is as before
pub record WireGiven (w : Wire) (before after : List Point) (layer : Layer) (count : ℕ) : Type 0 where
  pub layer_is : layer ≡ w.layer
  pub count_is : count ≡ length w.points
  pub writes : after ≡ points_written w.points before

-- its refusals by number: 3 where the list has fewer points than the board has cells, the others as for every call that names a wired pad
abbrev pub ReadRefused : Meaning → List Record → List Point → ℕ → ℕ → Type 0
ReadRefused m d points c n =
    ((n ≡ 1) × IsWrongDrawing m d) ⊎ (((n ≡ 3) × (length points < m.cells)) ⊎ (((n ≡ 4) × IsNotLawful m d) ⊎ (((n ≡ 5) × IsNoSuchCell m c)
    ⊎ (((n ≡ 6) × IsNotPad m c) ⊎ ((n ≡ 8) × IsNotWired d c)))))
