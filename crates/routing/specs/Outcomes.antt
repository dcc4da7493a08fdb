-- What a call that searches does: d is the drawing before it, e the drawing after it; work and report memory, after the call
-- with a prime.
use Rattle.std.specs.Prelude.{◌≡◌, ℕ, ◌*◌, List, ◌∷◌, ◌++◌, length, drop, replicate, Ok, Err, Result, slice_set}
use Rattle.boards.specs.Meaning.{Meaning}
use Rattle.linkages.specs.Lists.{Mem, Within, Same}
use Rattle.linkages.specs.Paths.{CanBeMet}
use Rattle.linkages.specs.Fences.{Fence}
use Rattle.records.specs.declared.record.Record.{Record}
use Rattle.records.specs.declared.record.Record.TheVariants.{Free, Barred, Net}
use Rattle.records.specs.declared.refusal.Refusal.{Refusal}
use Rattle.records.specs.declared.refusal.Refusal.TheVariants.{WrongDrawing, ShortWork, ShortReport, NotLawful, NoSuchCell, NotPad, WiredAlready, NotWired, BarredAlready, NotBarred, WiredPad, NoWay}
use Rattle.drawings.specs.Nets.{wired, bars, used}
use Rattle.records.specs.Records.{record_at}
use Rattle.drawings.specs.Lawful.{Lawful}
use Rattle.drawings.specs.Changes.{written}
use Rattle.rewiring.specs.Trails.{Rewired}
use Rattle.routing.specs.Showing.{Rising}

-- the first numbers of work memory, four for each cell, are zero, and the rest is as before
abbrev pub Zeroed : Meaning → List ℕ → List ℕ → Type 0
Zeroed m work work' = work' ≡ replicate (4 * m.cells) 0 ++ drop (4 * m.cells) work

-- report memory begins with the pads of a fence, so many as the first count says, then with its cells, so many as the second
-- says, both in rising number; its rest is as before
pub record FenceShown (m : Meaning) (bars pads report report' : List ℕ) (pad_count cell_count : ℕ) : Type 0 where
  pub shown_pads : List ℕ
  pub shown_cells : List ℕ
  pub pads_counted : pad_count ≡ length shown_pads
  pub cells_counted : cell_count ≡ length shown_cells
  pub fence : Fence m bars pads shown_pads shown_cells
  -- all of the pads but one can be met
  pub left_out : ℕ
  pub others : List ℕ
  pub others_met : CanBeMet m bars others
  pub no_more : Within pads (left_out ∷ others)
  pub pads_rise : Rising shown_pads
  pub cells_rise : Rising shown_cells
  pub writes : report' ≡ written (shown_pads ++ shown_cells) report

-- the pad p is wired as well, the wired pads are otherwise the same, and so are the bars; every landing used before is used,
-- and one more, z
pub record WiredAlso (m : Meaning) (d e : List Record) (p z : ℕ) : Type 0 where
  pub rewired : Rewired m d e p z
  pub landing_new : Mem z (used m d) → ⊥

-- how the search for a way for the pad p ends: with the landing, or with a fence for the wired pads and p
abbrev pub Routed : Meaning → List Record → List Record → ℕ → List ℕ → List ℕ → Result ℕ (ℕ × ℕ) → Type 0
Routed m d e p report report' (Ok z) = WiredAlso m d e p z × (report' ≡ report)
Routed m d e p report report' (Err k) = (e ≡ d) × FenceShown m (bars d) (p ∷ wired d) report report' k.0 k.1

-- an accepted place: the answer is the landing
pub record PadPlaced (m : Meaning) (d e : List Record) (work work' report report' : List ℕ) (p answer : ℕ) : Type 0 where
  pub wired_also : WiredAlso m d e p answer
  pub zeroed : Zeroed m work work'
  pub report_kept : report' ≡ report

-- the cell c is barred as well, and the wired pads are the same
pub record BarredAlso (m : Meaning) (d e : List Record) (c : ℕ) : Type 0 where
  pub lawful : Lawful m e
  pub same_wired : Same (wired e) (wired d)
  pub one_more : Same (bars e) (c ∷ bars d)

-- how the search for another way for the pad of a net ends, where c is a cell of the net that is to be barred
abbrev pub Rerouted : Meaning → List Record → List Record → ℕ → List ℕ → List ℕ → Result ℕ (ℕ × ℕ) → Type 0
Rerouted m d e c report report' (Ok z) = BarredAlso m d e c × (report' ≡ report)
Rerouted m d e c report report' (Err k) = (e ≡ d) × FenceShown m (c ∷ bars d) (wired d) report report' k.0 k.1

-- a free cell is barred without a search: the answer is 0 and nothing else is changed. For a cell on a net the answer is 1
abbrev pub BarredAs : Record → Meaning → List Record → List Record → List ℕ → List ℕ → ℕ → ℕ → Type 0
BarredAs Free m d e work work' c answer = (answer ≡ 0) × (e ≡ slice_set d c Barred) × (work' ≡ work)
BarredAs Barred m d e work work' c answer = ⊥
BarredAs (Net before after) m d e work work' c answer = (answer ≡ 1) × Zeroed m work work'

-- an accepted bar
pub record CellBarred (m : Meaning) (d e : List Record) (work work' report report' : List ℕ) (c answer : ℕ) : Type 0 where
  pub barred_also : BarredAlso m d e c
  pub as_it_was : BarredAs (record_at d c) m d e work work' c answer
  pub report_kept : report' ≡ report

-- a refusal for want of a way, where these are the bars and pads to be met
pub record Fenced (m : Meaning) (d e : List Record) (bars pads work work' report report' : List ℕ) (pad_count cell_count : ℕ) : Type 0 where
  pub drawing_kept : e ≡ d
  pub zeroed : Zeroed m work work'
  pub shown : FenceShown m bars pads report report' pad_count cell_count

-- what a refused call leaves: all memory as it was, or, where there is no way, a fence
pub record Untouched (d e : List Record) (work work' report report' : List ℕ) : Type 0 where
  pub drawing_kept : e ≡ d
  pub work_kept : work' ≡ work
  pub report_kept : report' ≡ report

abbrev pub Leaves : Type 0 → (ℕ → ℕ → Type 0) → Refusal → Type 0
Leaves U F WrongDrawing = U
Leaves U F ShortWork = U
Leaves U F ShortReport = U
Leaves U F NotLawful = U
Leaves U F NoSuchCell = U
Leaves U F NotPad = U
Leaves U F WiredAlready = U
Leaves U F NotWired = U
Leaves U F BarredAlready = U
Leaves U F NotBarred = U
Leaves U F WiredPad = U
Leaves U F (NoWay pads cells) = F pads cells

-- ---- what is claimed

-- two refusals for want of a way with the same pads and bars to be met show the same pads and the same cells
abbrev pub RefusalsAgree : Type 0
RefusalsAgree = (m : Meaning) (bars pads report report' : List ℕ) (a x : ℕ) (bars₂ pads₂ report₂ report₂' : List ℕ) (a₂ x₂ : ℕ) →
    Same bars bars₂ → Same pads pads₂ →
    (s : FenceShown m bars pads report report' a x) (t : FenceShown m bars₂ pads₂ report₂ report₂' a₂ x₂) →
    (s.shown_pads ≡ t.shown_pads) × (s.shown_cells ≡ t.shown_cells) × (a ≡ a₂) × (x ≡ x₂)
