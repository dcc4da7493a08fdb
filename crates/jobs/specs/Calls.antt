-- The call lines of a job: what each asks for, and how it is answered.
use Rattle.std.specs.Prelude.{◌≡◌, ℕ, suc, ◌+◌, ◌*◌, ◌<◌, ◌≤◌, List, [], ◌∷◌, ◌++◌, length, replicate, Some, None, Ok, Err, Option, Result, ◌≢◌}
use Rattle.boards.specs.declared.place.Place as boards
use Rattle.boards.specs.Meaning.{Meaning}
use Rattle.boards.specs.Places.{place_at}
use Rattle.boards.specs.Refusals.{Answer}
use Rattle.linkages.specs.Lists.{Mem}
use Rattle.records.specs.declared.record.Record.{Record}
use Rattle.records.specs.declared.record.Record.TheVariants.{Free}
use Rattle.records.specs.declared.refusal.Refusal.{Refusal}
use Rattle.records.specs.declared.refusal.Refusal.TheVariants.{NoSuchCell}
use Rattle.drawings.specs.Nets.{net}
use Rattle.records.specs.Numbers.{number_of}
use Rattle.drawings.specs.Conditions.{ShowRefused}
use Rattle.runs.specs.declared.calls.Kind.{Kind}
use Rattle.runs.specs.declared.calls.Kind.TheVariants.{Place, Lift, Bar, Clear}
use Rattle.runs.specs.Steps.{Performs}
use Rattle.job_lines.specs.declared.faults.LineFault.{LineFault}
use Rattle.job_lines.specs.declared.faults.LineFault.TheVariants.{Full}
use Rattle.job_lines.specs.Grammar.{Form, place, lift, bar, clear, show}
use Rattle.job_boards.specs.Plans.{Named, Plan, at_place, board_meaning, board_places}
use Rattle.job_boards.specs.Faults.{call_lines, Good, Faulty}
use Rattle.job_answers.specs.Texts.{answer_line, show_line, fault_line}
use Rattle.job_answers.specs.Courses.{Course}

-- what a line asks for: one of the four calls that change a drawing, or the course of the pad of a name
pub data Wish : Type 0 where
  call : Kind → Wish
  course_of : (name : List ℕ) → Wish

-- a pad lies on the top layer
abbrev pub top_of : Named → boards.Place
top_of q = at_place 1 q.row q.column

-- what a line asks for, and at which place: that of the pad with the name, or the one that the line gives
pub data Asks (p : Plan) : Form → Wish → boards.Place → Type 0 where
  place_pad : {n : List ℕ} (q : Named) → Mem q p.pads → q.name ≡ n → Asks p (place n) (call Place) (top_of q)
  lift_pad : {n : List ℕ} (q : Named) → Mem q p.pads → q.name ≡ n → Asks p (lift n) (call Lift) (top_of q)
  show_pad : {n : List ℕ} (q : Named) → Mem q p.pads → q.name ≡ n → Asks p (show n) (course_of n) (top_of q)
  bar_cell : {l r c : ℕ} → Asks p (bar l r c) (call Bar) (at_place l r c)
  clear_cell : {l r c : ℕ} → Asks p (clear l r c) (call Clear) (at_place l r c)

-- a call that brings work and report memory as long as it wants: d is the drawing before it, e the drawing after it, r the answer
pub record Made (m : Meaning) (kind : Kind) (c : ℕ) (d e : List Record) (r : Result ℕ Refusal) : Type 0 where
  pub work : List ℕ
  pub work_after : List ℕ
  pub report : List ℕ
  pub report_after : List ℕ
  pub work_long : 4 * m.cells ≤ length work
  pub report_long : 2 * m.cells ≤ length report
  pub performs : Performs m kind c d e work work_after report report_after r

-- what a show says of the net with these cells
abbrev pub CourseSaid : List boards.Place → (name cells : List ℕ) → Result ℕ Refusal → List ℕ → Type 0
CourseSaid ps name cells (Ok n) said = (letters : List ℕ) × Course ps cells letters × (said ≡ show_line name letters)
CourseSaid ps name cells (Err e) said = said ≡ answer_line (Err e)

-- a show of the pad c that brings report memory as long as it wants
pub record Shown (m : Meaning) (ps : List boards.Place) (name : List ℕ) (c : ℕ) (d : List Record) (said : List ℕ) : Type 0 where
  pub report : List ℕ
  pub report_long : 2 * m.cells ≤ length report
  pub answer : Result ℕ Refusal
  pub numbered : Answer number_of (ShowRefused m d report c) (λ n. n ≡ length (net d c)) answer
  pub says : CourseSaid ps name (net d c) answer said

-- the answer line: to a call on the cell at the place, to a show of it, or the refusal that there is no such cell
pub data Answered (m : Meaning) (ps : List boards.Place) (d : List Record) : Wish → boards.Place → List Record → List ℕ → Type 0 where
  no_cell : {w : Wish} {q : boards.Place} → ((c : ℕ) → place_at ps c ≢ Some q) → Answered m ps d w q d (answer_line (Err NoSuchCell))
  called : {kind : Kind} {q : boards.Place} {c : ℕ} {e : List Record} {r : Result ℕ Refusal} → place_at ps c ≡ Some q →
      Made m kind c d e r → Answered m ps d (call kind) q e (answer_line r)
  shown : {name : List ℕ} {q : boards.Place} {c : ℕ} {said : List ℕ} → place_at ps c ≡ Some q →
      Shown m ps name c d said → Answered m ps d (course_of name) q d said

-- a good line is answered: f is its form
pub record LineAnswered (p : Plan) (d : List Record) (bytes : List ℕ) (e : List Record) (answer : List ℕ) : Type 0 where
  pub form : Form
  pub good : Good (call_lines p) bytes form
  pub wish : Wish
  pub where_at : boards.Place
  pub asks : Asks p form wish where_at
  pub answered : Answered (board_meaning p) (board_places p) d wish where_at e answer

-- after k call lines on a fresh drawing the drawing is d, this was said, and those lines are left. An answer is written only if
-- at least 24 bytes of output remain after it
pub data Calls (p : Plan) (room : ℕ) (lines : List (List ℕ)) : ℕ → List Record → List ℕ → List (List ℕ) → Type 0 where
  none_yet : Calls p room lines 0 (replicate (board_meaning p).cells Free) [] lines
  one_more : {k : ℕ} {d e : List Record} {said answer bytes : List ℕ} {left : List (List ℕ)} → Calls p room lines k d said (bytes ∷ left) →
      LineAnswered p d bytes e answer → length said + length answer + 24 ≤ room → Calls p room lines (suc k) e (said ++ answer) left

-- how the calls end, after so many lines before them: all are made, a line is faulty, or an answer has no room
pub data Ends (p : Plan) (room before : ℕ) (lines : List (List ℕ)) : List Record → List ℕ → Option LineFault → Type 0 where
  all_made : {k : ℕ} {d : List Record} {said : List ℕ} → Calls p room lines k d said [] → Ends p room before lines d said None
  faulty : {k : ℕ} {d : List Record} {said bytes : List ℕ} {left : List (List ℕ)} {x : LineFault} → Calls p room lines k d said (bytes ∷ left) →
      Faulty (call_lines p) bytes x → Ends p room before lines d (said ++ fault_line (before + k + 1) x) (Some x)
  full : {k : ℕ} {d e : List Record} {said answer bytes : List ℕ} {left : List (List ℕ)} → Calls p room lines k d said (bytes ∷ left) →
      LineAnswered p d bytes e answer → room < length said + length answer + 24 →
      Ends p room before lines e (said ++ fault_line (before + k + 1) Full) (Some Full)
