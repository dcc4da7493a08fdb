-- The plan of the code as plain data, and what the functions that read lines answer.
use Rattle.std.specs.Prelude.{◌≡◌, ℕ, suc, ◌+◌, ◌≤◌, ◌⊎◌, List, [], ◌∷◌, map, length, Some, None, Ok, Err, vec_items, Option, Result}
use Rattle.boards.specs.declared.maps.MapKind.{MapKind}
use Rattle.boards.specs.declared.maps.MapKind.TheVariants.{FieldMap, EscapeMap}
use Rattle.boards.specs.Maps.{SidesAllowed}
use Rattle.job_lines.specs.declared.faults.LineFault.{LineFault}
use Rattle.job_lines.specs.declared.faults.LineFault.TheVariants.{Sides}
use Rattle.job_lines.specs.Lines.{lines_of}
use Rattle.job_lines.specs.Grammar.{Form, field, escape, pad, land, keep, place, lift, bar, clear, show}
use Rattle.job_boards.specs.declared.entering.Stop.{Stop}
use Rattle.job_boards.specs.declared.entering.Stop.TheVariants.{Fault, Call, Memory}
use Rattle.job_boards.specs.declared.header.Header.{Header}
use Rattle.job_boards.specs.declared.plan.Pad.{Pad}
use Rattle.job_boards.specs.declared.plan as code
use Rattle.job_boards.specs.declared.reading.Reading.{Reading}
use Rattle.job_boards.specs.Plans.{Named, Plan, Sound, entered}
use Rattle.job_boards.specs.Faults.{Says, first_line, board_lines, Wrong, FirstIn, NoneIn, checks, Good, Faulty}

abbrev pub named : Pad → Named
named q = record { name = q.name.now; row = q.row; column = q.column }

abbrev pub plan_of : code.Plan.Plan → Plan
plan_of p = record {
  kind = p.header.kind;
  rows = p.header.rows;
  columns = p.header.columns;
  map = vec_items p.map;
  pads = map named (vec_items p.pads);
  kept = vec_items p.kept;
}

-- the form of a first line
abbrev pub header_form : MapKind → (R C : ℕ) → Form
header_form FieldMap R C = field R C
header_form EscapeMap R C = escape R C

-- a header of the kind and the sides given, which are allowed, or else the fault that they are not
abbrev pub Sided : MapKind → (R C : ℕ) → Result Header LineFault → Type 0
Sided kind R C (Ok h) = SidesAllowed R C × (h.kind ≡ kind) × (h.rows ≡ R) × (h.columns ≡ C)
Sided kind R C (Err k) = (SidesAllowed R C → ⊥) × (k ≡ Sides)

abbrev pub Headed : List ℕ → Result Header LineFault → Type 0
Headed bytes (Ok h) = Good first_line bytes (header_form h.kind h.rows h.columns)
Headed bytes (Err k) = Faulty first_line bytes k

-- a pad has the name or is at the point
abbrev pub Takes : Named → (name : List ℕ) (r c : ℕ) → Type 0
Takes q n r c = (q.name ≡ n) ⊎ ((q.row ≡ r) × (q.column ≡ c))

-- a line about the board, and a line that is a call
abbrev pub BoardForm : Form → Type 0
BoardForm (field R C) = ⊥
BoardForm (escape R C) = ⊥
BoardForm (pad n r c) = Unit {0}
BoardForm (land r c) = Unit {0}
BoardForm (keep l r c) = Unit {0}
BoardForm (place n) = ⊥
BoardForm (lift n) = ⊥
BoardForm (bar l r c) = ⊥
BoardForm (clear l r c) = ⊥
BoardForm (show n) = ⊥

abbrev pub CallForm : Form → Type 0
CallForm (field R C) = ⊥
CallForm (escape R C) = ⊥
CallForm (pad n r c) = ⊥
CallForm (land r c) = ⊥
CallForm (keep l r c) = ⊥
CallForm (place n) = Unit {0}
CallForm (lift n) = Unit {0}
CallForm (bar l r c) = Unit {0}
CallForm (clear l r c) = Unit {0}
CallForm (show n) = Unit {0}

-- a form is entered into the plan p, which is q then, if nothing is wrong with it; want of memory says nothing of the plan
abbrev pub Entered : Plan → Plan → Form → Result (Unit {0}) Stop → Type 0
Entered p q f (Ok x) = NoneIn checks (Wrong (board_lines p) f) × (q ≡ entered f p)
Entered p q f (Err (Fault k)) = FirstIn checks (Wrong (board_lines p) f) k × (q ≡ p)
Entered p q f (Err Call) = ⊥
Entered p q f (Err Memory) = Unit {0}

-- the same for the bytes of a line
abbrev pub LineEntered : Plan → Plan → List ℕ → Result (Unit {0}) Stop → Type 0
LineEntered p q bytes (Ok x) = (f : Form) × Good (board_lines p) bytes f × BoardForm f × (q ≡ entered f p)
LineEntered p q bytes (Err (Fault k)) = Faulty (board_lines p) bytes k × (q ≡ p)
LineEntered p q bytes (Err Call) = (f : Form) × Says bytes f × CallForm f × (q ≡ p)
LineEntered p q bytes (Err Memory) = Unit {0}

-- k good lines about the board lead from the plan p, with these lines to come, to the plan q, with those left
pub data Reaches (p : Plan) (lines : List (List ℕ)) : ℕ → Plan → List (List ℕ) → Type 0 where
  here : Reaches p lines 0 p lines
  more : {k : ℕ} {q : Plan} {f : Form} {bytes : List ℕ} {left : List (List ℕ)} → Reaches p lines k q (bytes ∷ left) →
      Good (board_lines q) bytes f → BoardForm f → Reaches p lines (suc k) (entered f q) left

-- the lines about the board are over: there is no line left, or the next one is a call
abbrev pub Over : List (List ℕ) → Type 0
Over [] = Unit {0}
Over (bytes ∷ left) = (f : Form) × Says bytes f × CallForm f

-- how the reading ends: the lines are over, or the next line is faulty
abbrev pub Stops : Plan → List (List ℕ) → Option LineFault → Type 0
Stops q left None = Over left
Stops q [] (Some k) = ⊥
Stops q (bytes ∷ left) (Some k) = Faulty (board_lines q) bytes k

-- the lines about the board in a text, from the plan p on
pub record BoardRead (p : Plan) (text : List ℕ) (r : Reading) : Type 0 where
  pub reaches : Reaches p (lines_of text) r.lines (plan_of r.plan) (lines_of r.rest.now)
  pub stops : Stops (plan_of r.plan) (lines_of r.rest.now) r.fault
  pub sound : Sound (plan_of r.plan)
  pub within : r.lines + length r.rest.now ≤ length text
