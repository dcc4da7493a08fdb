-- The characters of a picture.
use Rattle.std.specs.Prelude.{◌≡◌, ℕ, Bool, true, false, List, Some, Decides, ◌≢◌}
use Rattle.boards.specs.declared.place.Place.{Place}
use Rattle.boards.specs.Meaning.{Meaning, outlet_at, pad_at, landing_at}
use Rattle.boards.specs.Places.{place_at}

-- a pad and a landing B, a pad P, a landing L; else v where a way leads to another layer, and a dot where none does
abbrev pub letter : (pad landing via : Bool) → ℕ
letter true true via = 66
letter true false via = 80
letter false true via = 76
letter false false true = 118
letter false false false = 46

-- an outlet of the cell lies on another layer than l
abbrev pub LeavesLayer : Meaning → List Place → ℕ → ℕ → Type 0
LeavesLayer m ps c l = (j : ℕ) × (d : ℕ) × (q : Place) × (outlet_at m c j ≡ Some d) × (place_at ps d ≡ Some q) × (q.layer ≢ l)

-- the character for a place: that of the cell there, or a blank where there is none
pub record GlyphOf (m : Meaning) (ps : List Place) (p : Place) (glyph : ℕ) : Type 0 where
  pub blank : ((c : ℕ) → place_at ps c ≢ Some p) → glyph ≡ 32
  pub cell : (c : ℕ) → place_at ps c ≡ Some p → (via : Bool) → Decides via (LeavesLayer m ps c p.layer) →
      glyph ≡ letter (pad_at m c) (landing_at m c) via
