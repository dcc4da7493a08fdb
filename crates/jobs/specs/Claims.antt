-- The calls of a job are a run of calls, of which the whole claim holds.
use Rattle.std.specs.Prelude.{◌≡◌, ℕ, List, ◌∷◌, Some, Option}
use Rattle.boards.specs.declared.place.Place.{Place}
use Rattle.boards.specs.Places.{place_at}
use Rattle.records.specs.declared.record.Record.{Record}
use Rattle.runs.specs.Histories.{Event, History, stands}
use Rattle.runs.specs.Claim.{Upholds, Claim}
use Rattle.job_lines.specs.declared.faults.LineFault.{LineFault}
use Rattle.job_lines.specs.Grammar.{Form}
use Rattle.job_boards.specs.Plans.{Plan, board_meaning, board_places}
use Rattle.job_answers.specs.Texts.{answer_line}
use Rattle.jobs.specs.Calls.{call, Asks, LineAnswered, Ends}

-- a line of the form f goes on a history: by nothing, if it shows a course or aims at no cell, or by the call that it asks for, on
-- the cell at the place that it names, whose answer is the line's
pub data GoesOn (p : Plan) (h : History) (f : Form) (answer : List ℕ) : History → Type 0 where
  same : GoesOn p h f answer h
  by_call : {q : Place} (e : Event) → Asks p f (call e.kind) q → place_at (board_places p) e.cell ≡ Some q → answer ≡ answer_line e.answer →
      GoesOn p h f answer (e ∷ h)

pub record JobsUphold : Type 0 where
  -- a line that is answered goes on a history that upholds the claim to one that does
  pub each_line : (p : Plan) (h : History) (d e : List Record) (bytes answer : List ℕ) → Upholds (board_meaning p) h → d ≡ stands (board_meaning p) h →
      (line : LineAnswered p d bytes e answer) →
      (h' : History) × GoesOn p h line.form answer h' × Upholds (board_meaning p) h' × (e ≡ stands (board_meaning p) h')
  -- so the drawing at the end of a job is what a run of calls left of which the whole claim holds: it is lawful, and holds exactly
  -- what was accepted
  pub at_the_end : (p : Plan) (room before : ℕ) (lines : List (List ℕ)) (d : List Record) (said : List ℕ) (x : Option LineFault) →
      Ends p room before lines d said x → (h : History) × Claim (board_meaning p) h × (d ≡ stands (board_meaning p) h)
