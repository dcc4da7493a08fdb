-- The calls of a job go on a history that upholds the claim.
use Rattle.std.proofs.Common.{◌≡◌, ℕ, List, [], Option, refl}
use Rattle.boards.specs.declared.place.Place.{Place}
use Rattle.records.specs.declared.record.Record.{Record}
use Rattle.runs.specs.Histories.{History, stands}
use Rattle.runs.specs.Claim.{Upholds}
use Rattle.runs.proofs.Claiming.{claim_of, upholds_more}
use Rattle.job_lines.specs.declared.faults.LineFault.{LineFault}
use Rattle.job_lines.specs.Grammar.{Form}
use Rattle.job_boards.specs.Plans.{Plan, board_meaning, board_places}
use Rattle.jobs.specs.Calls.{Wish, Asks, Answered, no_cell, called, shown, LineAnswered, Calls, none_yet, one_more, Ends, all_made, faulty, full}
use Rattle.jobs.specs.Claims.{GoesOn, same, by_call, JobsUphold}

-- a history that goes on h, upholds the claim and ends in e
abbrev Onward : Plan → History → Form → List ℕ → List Record → Type 0
Onward p h f answer e = (h' : History) × GoesOn p h f answer h' × Upholds (board_meaning p) h' × (e ≡ stands (board_meaning p) h')

answered_on : (p : Plan) (h : History) (f : Form) {d e : List Record} {w : Wish} {q : Place} {answer : List ℕ} → Upholds (board_meaning p) h → d ≡ stands (board_meaning p) h →
    Asks p f w q → Answered (board_meaning p) (board_places p) d w q e answer → Onward p h f answer e
answered_on p h f u l a (no_cell none) = (h, same, u, l)
answered_on p h f {d} {e} u l a (called {kind = kind} {c = c} {r = r} at M) =
    (_, by_call _ a at refl, upholds_more (board_meaning p) h u c d e _ _ _ _ l kind r M.performs, refl)
answered_on p h f u l a (shown at S) = (h, same, u, l)

each_line : (p : Plan) (h : History) (d e : List Record) (bytes answer : List ℕ) → Upholds (board_meaning p) h → d ≡ stands (board_meaning p) h →
    (line : LineAnswered p d bytes e answer) → Onward p h line.form answer e
each_line p h d e bytes answer u l line = answered_on p h line.form u l line.asks line.answered

-- a history that upholds the claim and ends in d
abbrev Ending : Plan → List Record → Type 0
Ending p d = (h : History) × Upholds (board_meaning p) h × (d ≡ stands (board_meaning p) h)

goes : (p : Plan) {d e : List Record} {bytes answer : List ℕ} → Ending p d → LineAnswered p d bytes e answer → Ending p e
goes p E line = let n = each_line p E.0 _ _ _ _ E.1 E.2 line in (n.0, n.2, n.3)

calls_ending : (p : Plan) {room : ℕ} {lines : List (List ℕ)} {k : ℕ} {d : List Record} {said : List ℕ} {left : List (List ℕ)} → Calls p room lines k d said left → Ending p d
calls_ending p none_yet = ([], tt, refl)
calls_ending p (one_more c line room) = goes p (calls_ending p c) line

ending : (p : Plan) {room before : ℕ} {lines : List (List ℕ)} {d : List Record} {said : List ℕ} {x : Option LineFault} → Ends p room before lines d said x → Ending p d
ending p (all_made c) = calls_ending p c
ending p (faulty c f) = calls_ending p c
ending p (full c line f) = goes p (calls_ending p c) line

pub jobs_uphold : JobsUphold
jobs_uphold = record {
  each_line = each_line;
  at_the_end = λ p room before lines d said x E.
      let n = ending p E in (n.0, claim_of (board_meaning p) n.0 n.1, n.2);
}
