-- What is wrong with a line of a job, by where it stands.
use Rattle.std.specs.Prelude.{◌≡◌, ℕ, ◌≤◌, ◌⊎◌, List, [], ◌∷◌, length}
use Rattle.boards.specs.declared.maps.MapKind.TheVariants.{EscapeMap}
use Rattle.boards.specs.Maps.{SidesAllowed}
use Rattle.boards.specs.Grids.{OnGrid}
use Rattle.linkages.specs.Lists.{Mem}
use Rattle.job_lines.specs.declared.faults.LineFault.{LineFault}
use Rattle.job_lines.specs.declared.faults.LineFault.TheVariants.{NoForm, OutOfPlace, Names, Sides, OffBoard, Full}
use Rattle.job_lines.specs.Grammar.{Form, WellFormed, spelled, field, escape, pad, land, keep, place, lift, bar, clear, show}
use Rattle.job_boards.specs.Plans.{Named, Plan, layers, at_place}

-- the line has this form
pub record Says (bytes : List ℕ) (f : Form) : Type 0 where
  pub fits : WellFormed f
  pub reads : bytes ≡ spelled f

-- where a line stands: first of all; among the lines about the board; among the calls, with what the lines about the board said
pub data Stage : Type 0 where
  first_line : Stage
  board_lines : Plan → Stage
  call_lines : Plan → Stage

-- 19: the board's kind comes first and only there, then pads, landings and keep-outs, then calls; landings have their lines on a
-- field alone; at most 128 pads
abbrev pub IsOutOfPlace : Stage → Form → Type 0
IsOutOfPlace first_line (field R C) = ⊥
IsOutOfPlace first_line (escape R C) = ⊥
IsOutOfPlace first_line (pad n r c) = Unit {0}
IsOutOfPlace first_line (land r c) = Unit {0}
IsOutOfPlace first_line (keep l r c) = Unit {0}
IsOutOfPlace first_line (place n) = Unit {0}
IsOutOfPlace first_line (lift n) = Unit {0}
IsOutOfPlace first_line (bar l r c) = Unit {0}
IsOutOfPlace first_line (clear l r c) = Unit {0}
IsOutOfPlace first_line (show n) = Unit {0}
IsOutOfPlace (board_lines p) (field R C) = Unit {0}
IsOutOfPlace (board_lines p) (escape R C) = Unit {0}
IsOutOfPlace (board_lines p) (pad n r c) = 128 ≤ length p.pads
IsOutOfPlace (board_lines p) (land r c) = p.kind ≡ EscapeMap
IsOutOfPlace (board_lines p) (keep l r c) = ⊥
IsOutOfPlace (board_lines p) (place n) = ⊥
IsOutOfPlace (board_lines p) (lift n) = ⊥
IsOutOfPlace (board_lines p) (bar l r c) = ⊥
IsOutOfPlace (board_lines p) (clear l r c) = ⊥
IsOutOfPlace (board_lines p) (show n) = ⊥
IsOutOfPlace (call_lines p) (field R C) = Unit {0}
IsOutOfPlace (call_lines p) (escape R C) = Unit {0}
IsOutOfPlace (call_lines p) (pad n r c) = Unit {0}
IsOutOfPlace (call_lines p) (land r c) = Unit {0}
IsOutOfPlace (call_lines p) (keep l r c) = Unit {0}
IsOutOfPlace (call_lines p) (place n) = ⊥
IsOutOfPlace (call_lines p) (lift n) = ⊥
IsOutOfPlace (call_lines p) (bar l r c) = ⊥
IsOutOfPlace (call_lines p) (clear l r c) = ⊥
IsOutOfPlace (call_lines p) (show n) = ⊥

-- some pad has the name; some pad is at the point
abbrev pub HasName : Plan → List ℕ → Type 0
HasName p n = (q : Named) × Mem q p.pads × (q.name ≡ n)

abbrev pub HasPoint : Plan → (r c : ℕ) → Type 0
HasPoint p r c = (q : Named) × Mem q p.pads × (q.row ≡ r) × (q.column ≡ c)

-- 18: a pad's name or point is taken; no pad has the name in a call
abbrev pub WrongName : Stage → Form → Type 0
WrongName first_line f = ⊥
WrongName (board_lines p) (pad n r c) = HasName p n ⊎ HasPoint p r c
WrongName (board_lines p) (field R C) = ⊥
WrongName (board_lines p) (escape R C) = ⊥
WrongName (board_lines p) (land r c) = ⊥
WrongName (board_lines p) (keep l r c) = ⊥
WrongName (board_lines p) (place n) = ⊥
WrongName (board_lines p) (lift n) = ⊥
WrongName (board_lines p) (bar l r c) = ⊥
WrongName (board_lines p) (clear l r c) = ⊥
WrongName (board_lines p) (show n) = ⊥
WrongName (call_lines p) (place n) = HasName p n → ⊥
WrongName (call_lines p) (lift n) = HasName p n → ⊥
WrongName (call_lines p) (show n) = HasName p n → ⊥
WrongName (call_lines p) (field R C) = ⊥
WrongName (call_lines p) (escape R C) = ⊥
WrongName (call_lines p) (pad n r c) = ⊥
WrongName (call_lines p) (land r c) = ⊥
WrongName (call_lines p) (keep l r c) = ⊥
WrongName (call_lines p) (bar l r c) = ⊥
WrongName (call_lines p) (clear l r c) = ⊥

-- 13: rows or columns that are not allowed
abbrev pub WrongSides : Form → Type 0
WrongSides (field R C) = SidesAllowed R C → ⊥
WrongSides (escape R C) = SidesAllowed R C → ⊥
WrongSides (pad n r c) = ⊥
WrongSides (land r c) = ⊥
WrongSides (keep l r c) = ⊥
WrongSides (place n) = ⊥
WrongSides (lift n) = ⊥
WrongSides (bar l r c) = ⊥
WrongSides (clear l r c) = ⊥
WrongSides (show n) = ⊥

-- 16: a point for a pad, a landing or a keep-out that is off the board. A bar or a clear there is no fault: the call is refused
abbrev pub IsOffBoard : Plan → (l r c : ℕ) → Type 0
IsOffBoard p l r c = OnGrid (layers p.kind) p.rows p.columns (at_place l r c) → ⊥

abbrev pub WrongPoint : Stage → Form → Type 0
WrongPoint first_line f = ⊥
WrongPoint (board_lines p) (pad n r c) = IsOffBoard p 1 r c
WrongPoint (board_lines p) (land r c) = IsOffBoard p 1 r c
WrongPoint (board_lines p) (keep l r c) = IsOffBoard p l r c
WrongPoint (board_lines p) (field R C) = ⊥
WrongPoint (board_lines p) (escape R C) = ⊥
WrongPoint (board_lines p) (place n) = ⊥
WrongPoint (board_lines p) (lift n) = ⊥
WrongPoint (board_lines p) (bar l r c) = ⊥
WrongPoint (board_lines p) (clear l r c) = ⊥
WrongPoint (board_lines p) (show n) = ⊥
WrongPoint (call_lines p) f = ⊥

-- what is wrong with a line of a form, by fault
abbrev pub Wrong : Stage → Form → LineFault → Type 0
Wrong s f NoForm = ⊥
Wrong s f OutOfPlace = IsOutOfPlace s f
Wrong s f Names = WrongName s f
Wrong s f Sides = WrongSides f
Wrong s f OffBoard = WrongPoint s f
Wrong s f Full = ⊥

-- the first of some faults, in their order, that holds; none of them holds
abbrev pub FirstIn : List LineFault → (LineFault → Type 0) → LineFault → Type 0
FirstIn [] W k = ⊥
FirstIn (x ∷ xs) W k = ((k ≡ x) × W x) ⊎ ((W x → ⊥) × FirstIn xs W k)

abbrev pub NoneIn : List LineFault → (LineFault → Type 0) → Type 0
NoneIn [] W = Unit {0}
NoneIn (x ∷ xs) W = (W x → ⊥) × NoneIn xs W

-- the order in which a line is checked, once it has a form
abbrev pub checks : List LineFault
checks = OutOfPlace ∷ Names ∷ Sides ∷ OffBoard ∷ []

-- a good line of the form f
pub record Good (s : Stage) (bytes : List ℕ) (f : Form) : Type 0 where
  pub says : Says bytes f
  pub right : NoneIn checks (Wrong s f)

-- the fault of a line: it has no form, or the first thing that is wrong with it
pub data Faulty (s : Stage) (bytes : List ℕ) : LineFault → Type 0 where
  no_form : ((f : Form) → Says bytes f → ⊥) → Faulty s bytes NoForm
  wrong : {f : Form} {k : LineFault} → Says bytes f → FirstIn checks (Wrong s f) k → Faulty s bytes k
