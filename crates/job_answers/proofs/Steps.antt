-- A course read cell by cell: its letters so far, and what is left of the cells.
use Rattle.std.proofs.Common.{◌≡◌, ℕ, ◌+◌, cond, eqb, ◌⊎◌, List, [], ◌∷◌, ◌++◌, Some, None, refl, ◌∙◌, append_assoc, append-nil, ⊎_elim, arith}
use Rattle.std.proofs.lemmas.Bool.Decides.{nat_tests}
use Rattle.boards.specs.declared.place.Place.{Place}
use Rattle.boards.specs.declared.place.Step.{Step}
use Rattle.boards.specs.declared.place.Step.TheVariants.{North, East, South, West, Down, Up}
use Rattle.boards.specs.Places.{place_at, Leads}
use Rattle.job_answers.specs.Courses.{letter, Course, ends, goes, CellStep, CoursesAgree}

-- the cells that are left are one and those after it; a course along them goes on from the letters so far, and a course along all the
-- cells goes on along them
pub record Passed (ps : List Place) (cells left later letters : List ℕ) : Type 0 where
  pub here : ℕ
  pub next : left ≡ here ∷ later
  pub whole : (more : List ℕ) → Course ps left more → Course ps cells (letters ++ more)
  pub goes_on : (all : List ℕ) → Course ps cells all → (more : List ℕ) × Course ps left more

pub none_passed : (ps : List Place) (cells left later letters : List ℕ) (c : ℕ) → left ≡ cells → cells ≡ c ∷ later → letters ≡ [] → Passed ps cells left later letters
none_passed ps cells left later letters c e next none =
    record { here = c; next = e ∙ next; whole = λ more along. rw (none, ← e) along; goes_on = λ all along. (all, rw e along) }

-- the rest of a course
rest : (ps : List Place) (c d : ℕ) (cells letters : List ℕ) → Course ps (c ∷ d ∷ cells) letters → (more : List ℕ) × Course ps (d ∷ cells) more
rest ps c d cells _ (goes {letters = more} s here there leads along) = (more, along)

-- one step on
pub more_passed : (ps : List Place) (cells left later left' later' letters letters' : List ℕ) (c d : ℕ) (s : Step) →
    left ≡ c ∷ left' → later ≡ d ∷ later' → letters' ≡ letters ++ letter s ∷ [] → CellStep ps c d (Some s) →
    Passed ps cells left later letters → Passed ps cells left' later' letters'
more_passed ps cells left later left' later' letters letters' c d s e e' wrote step passed =
    let next : left' ≡ d ∷ later' = cc passed.next in
    let both : left ≡ c ∷ d ∷ later' = cc in
    record {
      here = d;
      next = next;
      whole = λ more along.
          let on : Course ps (c ∷ d ∷ later') (letter s ∷ more) = goes s step.2 step.3 step.4 (rw next at along) in
          rw (wrote, append_assoc) (passed.whole (letter s ∷ more) (rw both on));
      goes_on = λ all along.
          let here = passed.goes_on all along in
          rw next (rest ps c d later' here.0 (rw both at here.1));
    }

-- no course passes two cells that no step joins
broken : (ps : List Place) (c d : ℕ) (cells letters : List ℕ) → CellStep ps c d None → Course ps (c ∷ d ∷ cells) letters → ⊥
broken ps c d cells _ unjoined (goes {p = p} {q = q} s here there leads along) = unjoined p q s here there leads

-- where no step leads on, there is no course along all the cells
pub stops : (ps : List Place) (cells left later left' later' letters : List ℕ) (c d : ℕ) → left ≡ c ∷ left' → later ≡ d ∷ later' →
    CellStep ps c d None → Passed ps cells left later letters → (all : List ℕ) → Course ps cells all → ⊥
stops ps cells left later left' later' letters c d e e' unjoined passed all along =
    let both : left ≡ c ∷ d ∷ later' = cc passed.next in
    let here = passed.goes_on all along in
    broken ps c d later' here.0 unjoined (rw both at here.1)

-- at the last cell the letters are all there
pub all_passed : (ps : List Place) (cells left later letters : List ℕ) → (left ≡ []) ⊎ (later ≡ []) → Passed ps cells left later letters → Course ps cells letters
all_passed ps cells left later letters none passed =
    let last : left ≡ passed.here ∷ [] = ⊎_elim (λ e. absurd (cc passed.next)) (λ e. cc passed.next) none in
    let end : Course ps (passed.here ∷ []) [] = ends in
    let all : Course ps cells (letters ++ []) = passed.whole [] (rw last end) in
    rw append-nil at all

-- the letter of the step, read off the two places
letter_between : Place → Place → ℕ
letter_between p q =
    cond (eqb (q.row + 1) p.row) 78
    (cond (eqb q.row (p.row + 1)) 83
    (cond (eqb (q.column + 1) p.column) 87
    (cond (eqb q.column (p.column + 1)) 69
    (cond (eqb q.layer (p.layer + 1)) 68 85))))

letter_read : (s : Step) (p q : Place) → Leads s p q → letter s ≡ letter_between p q
unfolding letter_between
letter_read North p q leads = grind (arith, nat_tests)
letter_read East p q leads = grind (arith, nat_tests)
letter_read South p q leads = grind (arith, nat_tests)
letter_read West p q leads = grind (arith, nat_tests)
letter_read Down p q leads = grind (arith, nat_tests)
letter_read Up p q leads = grind (arith, nat_tests)

-- a cell has one place, so two courses have the same letter here
one_letter : (ps : List Place) (c d : ℕ) (p q p' q' : Place) (s s' : Step) → place_at ps c ≡ Some p → place_at ps d ≡ Some q → Leads s p q →
    place_at ps c ≡ Some p' → place_at ps d ≡ Some q' → Leads s' p' q' → letter s ≡ letter s'
one_letter ps c d p q p' q' s s' here there leads here' there' leads' =
    let first : p ≡ p' = cc in
    let second : q ≡ q' = cc in
    let read = letter_read s p q leads in
    let read' = letter_read s' p' q' leads' in
    cc

pub courses_agree : CoursesAgree
courses_agree ps _ _ _ ends ends = refl
courses_agree ps _ _ _ (goes {c = c} {d = d} {p = p} {q = q} {cells = cells} {letters = letters} s here there leads along)
    (goes {p = p'} {q = q'} {letters = letters'} s' here' there' leads' along') =
    let first = one_letter ps c d p q p' q' s s' here there leads here' there' leads' in
    let others = courses_agree ps (d ∷ cells) letters letters' along along' in
    cc
