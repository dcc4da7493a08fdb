-- What holds of every run of calls: the drawing is lawful and holds what was accepted, every refusal has its number, a refusal for
-- want of a way shows a fence, and the fence depends on nothing but the board, the pads and the bars.
use Rattle.std.specs.Prelude.{◌≡◌, ℕ, ◌+◌, ◌*◌, ◌<◌, ◌≤◌, false, ◌⊎◌, List, [], ◌∷◌, length, take, drop, Err}
use Rattle.boards.specs.Meaning.{Meaning, pad_at}
use Rattle.boards.specs.Refusals.{Answer}
use Rattle.linkages.specs.Lists.{Mem, Same}
use Rattle.linkages.specs.Paths.{CanBeMet}
use Rattle.linkages.specs.Fences.{Fence}
use Rattle.records.specs.declared.refusal.Refusal.TheVariants.{NoWay}
use Rattle.drawings.specs.Nets.{wired, bars}
use Rattle.records.specs.Numbers.{number_of}
use Rattle.drawings.specs.Lawful.{Lawful}
use Rattle.runs.specs.declared.calls.Kind.{Kind}
use Rattle.runs.specs.declared.calls.Kind.TheVariants.{Place, Lift, Bar, Clear}
use Rattle.runs.specs.Histories.{Event, History, Book, stands, book, pads_to_meet, bars_to_meet}

-- ---- why a call is refused, by number: m is what the board means, b the book before the call, c its cell

-- 2, 3: too little work memory, too little report memory
abbrev pub Short : Meaning → (work report : List ℕ) → ℕ → Type 0
Short m work report n = ((n ≡ 2) × (length work < 4 * m.cells)) ⊎ ((n ≡ 3) × (length report < 2 * m.cells))

-- 12: the pads to be met have no disjoint unbarred paths to landings
abbrev pub HasNoWay : Meaning → Kind → ℕ → Book → ℕ → Type 0
HasNoWay m kind c b n = (n ≡ 12) × (CanBeMet m (bars_to_meet kind c b) (pads_to_meet kind c b) → ⊥)

abbrev pub Refused : Meaning → Book → Kind → ℕ → (work report : List ℕ) → ℕ → Type 0
Refused m b Place c work report n =
    Short m work report n ⊎ (((n ≡ 5) × (m.cells ≤ c)) ⊎ (((n ≡ 6) × (pad_at m c ≡ false)) ⊎ (((n ≡ 7) × Mem c b.pads)
    ⊎ (((n ≡ 9) × Mem c b.barred) ⊎ HasNoWay m Place c b n))))
Refused m b Lift c work report n = ((n ≡ 5) × (m.cells ≤ c)) ⊎ (((n ≡ 6) × (pad_at m c ≡ false)) ⊎ ((n ≡ 8) × (Mem c b.pads → ⊥)))
Refused m b Bar c work report n =
    Short m work report n ⊎ (((n ≡ 5) × (m.cells ≤ c)) ⊎ (((n ≡ 9) × Mem c b.barred) ⊎ (((n ≡ 11) × Mem c b.pads) ⊎ HasNoWay m Bar c b n)))
Refused m b Clear c work report n = ((n ≡ 5) × (m.cells ≤ c)) ⊎ ((n ≡ 10) × (Mem c b.barred → ⊥))

-- ---- the fence that a refusal for want of a way shows: its pads and then its cells, at the front of report memory

abbrev pub shown_pads : Event → ℕ → List ℕ
shown_pads e p = take p e.report_after

abbrev pub shown_cells : Event → ℕ → ℕ → List ℕ
shown_cells e p k = take k (drop p e.report_after)

-- p pads and k cells are shown, they are the fence of the pads and bars to be met, and the rest of report memory is as before
pub record ShowsFence (m : Meaning) (b : Book) (e : Event) (p k : ℕ) : Type 0 where
  pub room : p + k ≤ length e.report_after
  pub fence : Fence m (bars_to_meet e.kind e.cell b) (pads_to_meet e.kind e.cell b) (shown_pads e p) (shown_cells e p k)
  pub rest : drop (p + k) e.report_after ≡ drop (p + k) e.report

-- ---- the claim

-- what holds of the newest call of a history, h being the calls before it
pub record Upheld (m : Meaning) (e : Event) (h : History) : Type 0 where
  -- the call finds the drawing as the one before left it
  pub goes_on : e.before ≡ stands m h
  -- a. afterwards the drawing is lawful, and its wired pads and bars are exactly those of the book
  pub lawful : Lawful m e.after
  pub holds_pads : Same (wired e.after) (book (e ∷ h)).pads
  pub holds_bars : Same (bars e.after) (book (e ∷ h)).barred
  -- b. it is refused with the first number whose condition holds, and accepted if none does
  pub numbered : Answer number_of (Refused m (book h) e.kind e.cell e.work e.report) (λ _. Unit {0}) e.answer
  -- and where it is refused for want of a way, it shows the fence
  pub fenced : (p k : ℕ) → e.answer ≡ Err (NoWay p k) → ShowsFence m (book h) e p k

abbrev pub Upholds : Meaning → History → Type 0
Upholds m [] = Unit {0}
Upholds m (e ∷ h) = Upheld m e h × Upholds m h

-- e was a call of the history, after the calls g
pub data MadeAfter (e : Event) (g : History) : History → Type 0 where
  newest : MadeAfter e g (e ∷ g)
  earlier : {f : Event} {h : History} → MadeAfter e g h → MadeAfter e g (f ∷ h)

-- c. whatever calls came before, in one run or two, refusals for want of a way with the same pads and bars to be met show the same
-- pads and the same cells
abbrev pub SameFences : Meaning → History → History → Type 0
SameFences m h h' = (e e' : Event) (g g' : History) (p k p' k' : ℕ) → MadeAfter e g h → MadeAfter e' g' h' →
    e.answer ≡ Err (NoWay p k) → e'.answer ≡ Err (NoWay p' k') →
    Same (pads_to_meet e.kind e.cell (book g)) (pads_to_meet e'.kind e'.cell (book g')) →
    Same (bars_to_meet e.kind e.cell (book g)) (bars_to_meet e'.kind e'.cell (book g')) →
    Same (shown_pads e p) (shown_pads e' p') × Same (shown_cells e p k) (shown_cells e' p' k')

-- the whole claim about a history: it is upheld, and against every other upheld history of a board that means the same
pub record Claim (m : Meaning) (h : History) : Type 0 where
  pub upholds : Upholds m h
  pub same_fences : (m' : Meaning) (h' : History) → m' ≡ m → Upholds m' h' → SameFences m h h'
