-- The answer to a show.
use Rattle.std.proofs.Common.{◌≡◌, ℕ, ◌*◌, ◌≤◌, Bool, true, false, List, length, take, drop, Some, Ok, Err, vec_items, sym, refl, ap, ◌∙◌, inr}
use Rattle.std.proofs.lemmas.List.{take_at}
use Rattle.boards.specs.declared.place.Place.{Place}
use Rattle.boards.specs.Meaning.{Meaning}
use Rattle.boards.specs.Places.{Placed, place_at}
use Rattle.boards.specs.Refusals.{First, NoneHolds}
use Rattle.records.specs.declared.record.Record.{Record}
use Rattle.records.specs.declared.refusal.Refusal.{Refusal}
use Rattle.drawings.specs.Nets.{net, first_at}
use Rattle.records.specs.Numbers.{number_of}
use Rattle.drawings.specs.Conditions.{ShowRefused}
use Rattle.drawings.specs.Lawful.{Lawful}
use Rattle.drawings.specs.Outcomes as drawings
use Rattle.runs.proofs.Standing.{standing}
use Rattle.job_answers.specs.Texts.{answer_line}
use Rattle.job_answers.specs.Courses.{Course}
use Rattle.jobs.specs.declared.desk.Desk.{Desk}
use Rattle.jobs.specs.Calls.{course_of, Answered, shown}
use Rattle.jobs.specs.Steps.{Ready, SaysCourse}
use Rattle.jobs.proofs.Courses.{net_course}

-- the drawing on a desk that is ready is lawful
pub lawful_ready : (m : Meaning) (desk : Desk) → Ready m desk → (d : List Record) → d ≡ vec_items desk.drawing → Lawful m d
lawful_ready m desk R d e = rw (e, R.left) (standing m R.history R.upholds).lawful

true_else : (b : Bool) → (b ≡ false → ⊥) → b ≡ true
true_else true n = refl
true_else false n = absurd (n refl)

module _ (m : Meaning) (ps : List Place) (P : Placed m ps) (d : List Record) (W : Lawful m d) (report report' : List ℕ) (c n : ℕ)
    (none : NoneHolds (ShowRefused m d report c)) (S : drawings.Shown m d report report' c n) where
  wired : first_at d c ≡ true
  wired = true_else (first_at d c) (λ e. none 8 (inr (inr (inr (inr (inr (refl, e)))))))

  pub cells_shown : take n report' ≡ net d c
  cells_shown = ap (take n) S.writes ∙ take_at (net d c) (drop (length (net d c)) report) n (sym S.count)

  pub course_there : (letters : List ℕ) × Course ps (take n report') letters
  course_there = rw cells_shown (net_course m d ps W P c wired)

  pub course_told : (name said : List ℕ) (q : Place) → place_at ps c ≡ Some q → 2 * m.cells ≤ length report →
      SaysCourse ps name (take n report') said → Answered m ps d (course_of name) q d said
  course_told name said q at long says = shown at record {
    report = report;
    report_long = long;
    answer = Ok n;
    numbered = (none, S.count);
    says = rw cells_shown at says;
  }

pub refusal_told : (m : Meaning) (ps : List Place) (d : List Record) (report : List ℕ) (c : ℕ) (e : Refusal) (name said : List ℕ) (q : Place) →
    place_at ps c ≡ Some q → 2 * m.cells ≤ length report → First (ShowRefused m d report c) (number_of e) → said ≡ answer_line (Err e) →
    Answered m ps d (course_of name) q d said
refusal_told m ps d report c e name said q at long first says =
    shown at record { report = report; report_long = long; answer = Err e; numbered = first; says = says }
