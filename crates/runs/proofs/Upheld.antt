-- A call that does what its kind promises upholds the claim.
use Rattle.std.proofs.Common.{◌≡◌, ℕ, ◌⊎◌, List, ◌∷◌, IfErr, Ok, Err, Result, sym, subst, inl, inr}
use Rattle.boards.specs.Meaning.{Meaning}
use Rattle.boards.specs.Refusals.{Answer}
use Rattle.records.specs.declared.record.Record.{Record}
use Rattle.records.specs.declared.refusal.Refusal.{Refusal}
use Rattle.records.specs.declared.refusal.Refusal.TheVariants.{WrongDrawing, ShortWork, ShortReport, NotLawful, NoSuchCell, NotPad, WiredAlready, NotWired, BarredAlready, NotBarred, WiredPad, NoWay}
use Rattle.drawings.specs.Nets.{wired, bars}
use Rattle.records.specs.Numbers.{number_of}
use Rattle.drawings.specs.Outcomes.{Lifted, Cleared}
use Rattle.routing.specs.Outcomes.{Leaves, Fenced, Untouched, PadPlaced, CellBarred}
use Rattle.runs.specs.declared.calls.Kind.{Kind}
use Rattle.runs.specs.declared.calls.Kind.TheVariants.{Place, Lift, Bar, Clear}
use Rattle.runs.specs.Histories.{History, Book, stands, book, fed}
use Rattle.runs.specs.Claim.{Refused, Upheld, Upholds, ShowsFence}
use Rattle.runs.specs.Steps.{event, Performs}
use Rattle.runs.proofs.Standing.{Standing, standing}
use Rattle.runs.proofs.SameFences.{for_want}
use Rattle.runs.proofs.ByBook.{answer_by, same_without, same_more, same_trans, same_at, lift_to_book, lift_from_book, clear_to_book, clear_from_book, place_to_book, place_from_book, bar_to_book, bar_from_book}
use Rattle.runs.proofs.Shown.{shows_fence}

-- what is left of a refusal: the drawing is as before either way
left_drawing : {U : Type 0} {F : ℕ → ℕ → Type 0} {Q : Type 0} (r : Refusal) → Leaves U F r → (U → Q) → ((p k : ℕ) → F p k → Q) → Q
left_drawing WrongDrawing l u f = u l
left_drawing ShortWork l u f = u l
left_drawing ShortReport l u f = u l
left_drawing NotLawful l u f = u l
left_drawing NoSuchCell l u f = u l
left_drawing NotPad l u f = u l
left_drawing WiredAlready l u f = u l
left_drawing NotWired l u f = u l
left_drawing BarredAlready l u f = u l
left_drawing NotBarred l u f = u l
left_drawing WiredPad l u f = u l
left_drawing (NoWay p k) l u f = f p k l

-- what a call that does what its kind promises answers and leaves, by a book that the drawing before it holds
module _ (m : Meaning) (d : List Record) (b : Book) (S : Standing m d b) (c : ℕ) (e : List Record) (work work' report report' : List ℕ) where
  -- the answer is the one that the order of conditions gives
  pub judged : (kind : Kind) (r : Result ℕ Refusal) → Performs m kind c d e work work' report report' r →
      Answer number_of (Refused m b kind c work report) (λ _. Unit {0}) r
  judged Place r P =
      answer_by number_of _ _ (PadPlaced m d e work work' report report' c) (place_to_book m d b S c work report) (place_from_book m d b S c work report) r P.0
  judged Lift r P = answer_by number_of _ _ (Lifted m d e c) (lift_to_book m d b S c work report) (lift_from_book m d b S c work report) r P.0
  judged Bar r P =
      answer_by number_of _ _ (CellBarred m d e work work' report report' c) (bar_to_book m d b S c work report) (bar_from_book m d b S c work report) r P.0
  judged Clear r P = answer_by number_of _ _ (Cleared m d e c) (clear_to_book m d b S c work report) (clear_from_book m d b S c work report) r P.0

  -- lift and clear are never refused for want of a way
  never : {Q : Type 0} (kind : Kind) (r : Result ℕ Refusal) (p k : ℕ) → ((kind ≡ Place) ⊎ (kind ≡ Bar) → ⊥) →
      Answer number_of (Refused m b kind c work report) (λ _. Unit {0}) r → r ≡ Err (NoWay p k) → Q
  never kind r p k not-these a g = absurd (not-these (for_want m b c work report kind (rw g at a).0).1)

  -- a refusal for want of a way shows the fence
  pub fenced_by : (kind : Kind) (r : Result ℕ Refusal) → Performs m kind c d e work work' report report' r → (p k : ℕ) → r ≡ Err (NoWay p k) →
      ShowsFence m b (event kind c d e work work' report report' r) p k
  fenced_by Place r P p k g =
      let F = subst (λ (x : Result ℕ Refusal). IfErr x (Leaves (Untouched d e work work' report report')
      (Fenced m d e (bars d) (c ∷ wired d) work work' report report'))) g P.1 in
      shows_fence m b (event Place c d e work work' report report' r) (bars d) (c ∷ wired d) S.barred (same_more c _ _ S.pads) p k F.shown
  fenced_by Bar r P p k g =
      let F = subst (λ (x : Result ℕ Refusal). IfErr x (Leaves (Untouched d e work work' report report')
      (Fenced m d e (c ∷ bars d) (wired d) work work' report report'))) g P.1 in
      shows_fence m b (event Bar c d e work work' report report' r) (c ∷ bars d) (wired d) (same_more c _ _ S.barred) S.pads p k F.shown
  fenced_by Lift r P p k g = never Lift r p k (λ e. elim e [ inl e ↦ cc | inr e ↦ cc ]) (judged Lift r P) g
  fenced_by Clear r P p k g = never Clear r p k (λ e. elim e [ inl e ↦ cc | inr e ↦ cc ]) (judged Clear r P) g

  -- the drawing after it holds the book that was fed the call
  unchanged : e ≡ d → Standing m e b
  unchanged same = subst (λ (x : List Record). Standing m x b) (sym same) S

  pub holds_fed : (kind : Kind) (r : Result ℕ Refusal) → Performs m kind c d e work work' report report' r → Standing m e (fed kind c r b)
  holds_fed Place (Ok z) P =
      let w = P.0.1.wired_also.rewired in
      record { lawful = w.lawful; pads = same_trans w.one_more (same_more c _ _ S.pads); barred = same_trans (same_at w.same_bars) S.barred }
  holds_fed Place (Err r) P = unchanged (left_drawing r P.1 (λ l. l.drawing_kept) (λ p k l. l.drawing_kept))
  holds_fed Lift (Ok z) P =
      let w = P.0.1 in
      record { lawful = w.lawful; pads = same_trans (same_at w.one_less) (same_without c _ _ S.pads); barred = same_trans (same_at w.same_bars) S.barred }
  holds_fed Lift (Err r) P = unchanged P.1
  holds_fed Bar (Ok z) P =
      let w = P.0.1.barred_also in
      record { lawful = w.lawful; pads = same_trans w.same_wired S.pads; barred = same_trans w.one_more (same_more c _ _ S.barred) }
  holds_fed Bar (Err r) P = unchanged (left_drawing r P.1 (λ l. l.drawing_kept) (λ p k l. l.drawing_kept))
  holds_fed Clear (Ok z) P =
      let w = P.0.1 in
      record { lawful = w.lawful; pads = same_trans (same_at w.same_wired) S.pads; barred = same_trans (same_at w.one_less) (same_without c _ _ S.barred) }
  holds_fed Clear (Err r) P = unchanged P.1

pub step_upheld : (m : Meaning) (h : History) → Upholds m h → (c : ℕ) (d e : List Record) (work work' report report' : List ℕ) → d ≡ stands m h →
    (kind : Kind) (r : Result ℕ Refusal) → Performs m kind c d e work work' report report' r → Upheld m (event kind c d e work work' report report' r) h
step_upheld m h u c d e work work' report report' goes_on kind r P =
    let S = subst (λ (x : List Record). Standing m x (book h)) (sym goes_on) (standing m h u) in
    let after = holds_fed m d (book h) S c e work work' report report' kind r P in
    record {
      goes_on = goes_on;
      lawful = after.lawful;
      holds_pads = after.pads;
      holds_bars = after.barred;
      numbered = judged m d (book h) S c e work work' report report' kind r P;
      fenced = fenced_by m d (book h) S c e work work' report report' kind r P;
    }
