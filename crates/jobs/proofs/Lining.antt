-- One call line.
use Rattle.std.proofs.Common.{◌≡◌, ℕ, ◌+◌, ◌<◌, ◌≤◌, true, false, List, Ok, Err, ⊎_elim}
use Rattle.std.proofs.lemmas.Bool.{cases_lt, false≢true}
use Rattle.boards.specs.declared.place.Place.{Place}
use Rattle.boards.specs.Meaning.{Meaning}
use Rattle.records.specs.declared.record.Record.{Record}
use Rattle.job_lines.specs.declared.faults.LineFault.{LineFault}
use Rattle.job_lines.specs.Grammar.{Form}
use Rattle.job_boards.specs.declared.plan.Pad.{Pad}
use Rattle.job_boards.specs.Plans.{Plan}
use Rattle.job_boards.specs.Faults.{Says, call_lines, Faulty, wrong}
use Rattle.jobs.specs.declared.orders.Order.{Order}
use Rattle.jobs.specs.Calls.{Answered, LineAnswered}
use Rattle.jobs.specs.Steps.{Site, Ordered, wish_of}

pub line_answered : (p : Plan) (m : Meaning) (ps : List Place) (pads : List Pad) (bytes : List ℕ) (f : Form) (o : Order) (d e : List Record) (answer : List ℕ) →
    Site p m ps pads → Says bytes f → Ordered p f (Ok o) → Answered m ps d (wish_of o.wish) o.place e answer →
    LineAnswered p d bytes e answer
line_answered p m ps pads bytes f o d e answer S says O A = record {
  form = f;
  good = record { says = says; right = O.0 };
  wish = wish_of o.wish;
  where_at = o.place;
  asks = O.1;
  answered = rw (S.means, S.lies) at A;
}

pub line_faulty : (p : Plan) (bytes : List ℕ) (f : Form) (k : LineFault) → Says bytes f → Ordered p f (Err k) → Faulty (call_lines p) bytes k
line_faulty p bytes f k says O = wrong says O

pub no_room : (room used more : ℕ) → (used + more + 24 ≤ room → false ≡ true) → room < used + more + 24
no_room room used more h = ⊎_elim (λ l. l) (λ l. absurd (false≢true (h l))) (cases_lt room (used + more + 24))
