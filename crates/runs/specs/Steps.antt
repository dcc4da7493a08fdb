-- What one call does to the drawing and to the memory that it brings: the promise of the call of its kind.
-- d is the drawing before and e the drawing after; what memory holds after the call has a prime.
use Rattle.std.specs.Prelude.{◌≡◌, ℕ, List, ◌∷◌, IfErr, Result, OnErr}
use Rattle.boards.specs.Meaning.{Meaning}
use Rattle.boards.specs.Refusals.{Answer}
use Rattle.records.specs.declared.record.Record.{Record}
use Rattle.records.specs.declared.refusal.Refusal.{Refusal}
use Rattle.drawings.specs.Nets.{wired, bars}
use Rattle.records.specs.Numbers.{number_of}
use Rattle.drawings.specs.Conditions.{LiftRefused, ClearRefused}
use Rattle.drawings.specs.Outcomes.{Lifted, Cleared}
use Rattle.routing.specs.Conditions.{PlaceRefused, BarRefused}
use Rattle.routing.specs.Outcomes.{PadPlaced, CellBarred, Fenced, Untouched, Leaves}
use Rattle.runs.specs.declared.calls.Kind.{Kind}
use Rattle.runs.specs.declared.calls.Kind.TheVariants.{Place, Lift, Bar, Clear}
use Rattle.runs.specs.Histories.{Event}

abbrev pub event : Kind → ℕ → (d e : List Record) (work work' report report' : List ℕ) → Result ℕ Refusal → Event
event kind c d e work work' report report' r = record {
  kind = kind;
  cell = c;
  before = d;
  after = e;
  work = work;
  work_after = work';
  report = report;
  report_after = report';
  answer = r;
}

abbrev pub Performs : Meaning → Kind → ℕ → (d e : List Record) (work work' report report' : List ℕ) → Result ℕ Refusal → Type 0
Performs m Place c d e work work' report report' r =
    Answer number_of (PlaceRefused m d work report c) (PadPlaced m d e work work' report report' c) r
    × IfErr r (Leaves (Untouched d e work work' report report') (Fenced m d e (bars d) (c ∷ wired d) work work' report report'))
Performs m Lift c d e work work' report report' r =
    Answer number_of (LiftRefused m d c) (Lifted m d e c) r × OnErr r (e ≡ d) × (work' ≡ work) × (report' ≡ report)
Performs m Bar c d e work work' report report' r =
    Answer number_of (BarRefused m d work report c) (CellBarred m d e work work' report report' c) r
    × IfErr r (Leaves (Untouched d e work work' report report') (Fenced m d e (c ∷ bars d) (wired d) work work' report report'))
Performs m Clear c d e work work' report report' r =
    Answer number_of (ClearRefused m d c) (Cleared m d e c) r × OnErr r (e ≡ d) × (work' ≡ work) × (report' ≡ report)
