-- What the functions that make the calls of a job answer.
use Rattle.std.specs.Prelude.{◌≡◌, ℕ, ◌+◌, ◌*◌, ◌<◌, ◌≤◌, ◌⊎◌, List, map, length, Some, Ok, Err, vec_items, Result, ◌≢◌}
use Rattle.std.specs.Global.{Vec}
use Rattle.boards.specs.declared.place.Place as boards
use Rattle.boards.specs.Meaning.{Meaning}
use Rattle.boards.specs.Places.{place_at}
use Rattle.linkages.specs.Lists.{Mem}
use Rattle.records.specs.declared.record.Record.{Record}
use Rattle.records.specs.declared.refusal.Refusal.{Refusal}
use Rattle.records.specs.declared.refusal.Refusal.TheVariants.{NoSuchCell}
use Rattle.runs.specs.declared.calls.Kind.{Kind}
use Rattle.runs.specs.Histories.{History, stands}
use Rattle.runs.specs.Claim.{Upholds}
use Rattle.job_lines.specs.declared.faults.LineFault.{LineFault}
use Rattle.job_lines.specs.declared.faults.LineFault.TheVariants.{Names, Full}
use Rattle.job_lines.specs.Grammar.{Form}
use Rattle.job_boards.specs.declared.plan.Pad.{Pad}
use Rattle.job_boards.specs.Plans.{Named, Plan, Sound, base, board_meaning, board_places}
use Rattle.job_boards.specs.Faults.{call_lines, Wrong, FirstIn, NoneIn, checks, Faulty}
use Rattle.job_boards.specs.Reading.{named}
use Rattle.job_answers.specs.Texts.{show_line}
use Rattle.job_answers.specs.Courses.{Course}
use Rattle.jobs.specs.declared.calls.Stop.{Stop}
use Rattle.jobs.specs.declared.calls.Stop.TheVariants.{Fault, Memory}
use Rattle.jobs.specs.declared.desk.Desk.{Desk}
use Rattle.jobs.specs.declared.orders as code
use Rattle.jobs.specs.declared.orders.Wish.TheVariants as wish
use Rattle.jobs.specs.Calls.{Wish, call, course_of, top_of, Asks, Made, LineAnswered}

-- the board and the pads are those of the plan
pub record Site (p : Plan) (m : Meaning) (ps : List boards.Place) (pads : List Pad) : Type 0 where
  pub means : m ≡ board_meaning p
  pub lies : ps ≡ board_places p
  pub names : map named pads ≡ p.pads

-- the board of the map and what is kept out of it and the pads are those of the plan
pub record Describes (p : Plan) (m : Meaning) (ps : List boards.Place) (kept : List ℕ) (pads : List Pad) : Type 0 where
  pub sound : Sound p
  pub means : m ≡ base p.kind p.rows p.columns p.map
  pub lies : ps ≡ board_places p
  pub closed : kept ≡ p.kept
  pub names : map named pads ≡ p.pads

-- the place of the pad with a name
abbrev pub FindsPad : List Named → List ℕ → Result boards.Place LineFault → Type 0
FindsPad pads n (Ok at) = (q : Named) × Mem q pads × (q.name ≡ n) × (at ≡ top_of q)
FindsPad pads n (Err k) = (k ≡ Names) × ((q : Named) → Mem q pads → q.name ≢ n)

abbrev pub wish_of : code.Wish.Wish → Wish
wish_of (wish.Call kind) = call kind
wish_of (wish.Course name) = course_of name.now

-- what a line of the form f asks for among the calls, or the first thing that is wrong with it
abbrev pub Ordered : Plan → Form → Result code.Order.Order LineFault → Type 0
Ordered p f (Ok o) = NoneIn checks (Wrong (call_lines p) f) × Asks p f (wish_of o.wish) o.place
Ordered p f (Err k) = FirstIn checks (Wrong (call_lines p) f) k

-- memory as the calls want it, with a drawing that a run of calls left
pub record Ready (m : Meaning) (desk : Desk) : Type 0 where
  pub history : History
  pub upholds : Upholds m history
  pub left : vec_items desk.drawing ≡ stands m history
  pub work_long : 4 * m.cells ≤ length (vec_items desk.work)
  pub report_long : 2 * m.cells ≤ length (vec_items desk.report)

-- a call at the place q
abbrev pub Called : Meaning → List boards.Place → (d e : List Record) → Kind → boards.Place → Result ℕ Refusal → Type 0
Called m ps d e kind q r =
    (((c : ℕ) → place_at ps c ≢ Some q) × (e ≡ d) × (r ≡ Err NoSuchCell))
    ⊎ ((c : ℕ) × (place_at ps c ≡ Some q) × Made m kind c d e r)

-- a line that shows the course along the cells
abbrev pub SaysCourse : List boards.Place → (name cells said : List ℕ) → Type 0
SaysCourse ps name cells said = (letters : List ℕ) × Course ps cells letters × (said ≡ show_line name letters)

-- what comes of one line, where so many bytes were said before: it is answered, or it has a fault; want of memory says nothing
abbrev pub LineDone : Plan → (d e : List Record) → (room used : ℕ) (bytes : List ℕ) → Result (Vec ℕ) Stop → Type 0
LineDone p d e room used bytes (Ok v) = LineAnswered p d bytes e (vec_items v) × (used + length (vec_items v) + 24 ≤ room)
LineDone p d e room used bytes (Err (Fault x)) =
    (Faulty (call_lines p) bytes x × (e ≡ d))
    ⊎ ((x ≡ Full) × ((answer : List ℕ) × LineAnswered p d bytes e answer × (room < used + length answer + 24)))
LineDone p d e room used bytes (Err Memory) = Unit {0}
