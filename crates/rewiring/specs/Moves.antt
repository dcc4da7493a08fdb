-- How nets change when a trail is taken back by one cell, and what a drawing is once all of it is.
use Rattle.std.specs.Prelude.{◌≡◌, ℕ, cond, List, ◌∷◌, length, Some, None, Option, ◌==◌, slice_set}
use Rattle.boards.specs.Meaning.{Meaning}
use Rattle.linkages.specs.Lists.{Same}
use Rattle.records.specs.declared.record.Record.{Record}
use Rattle.records.specs.declared.record.Record.TheVariants.{Free, Net}
use Rattle.drawings.specs.Nets.{before_at, after_at, wired, bars, used}
use Rattle.drawings.specs.Lawful.{Local}

-- a cell is on a net, and names another as the cell after it, or as the cell before it; the other end is as it was
abbrev pub with_after : List Record → ℕ → Option ℕ → List Record
with_after d c a = slice_set d c (Net (before_at d c) a)

abbrev pub with_before : List Record → ℕ → Option ℕ → List Record
with_before d c b = slice_set d c (Net b (after_at d c))

-- a cell is a net by itself
abbrev pub alone : List Record → ℕ → List Record
alone d c = slice_set d c (Net None None)

-- one cell comes after another, and one no longer does
abbrev pub linked : List Record → ℕ → ℕ → List Record
linked d s t = with_before (with_after d s (Some t)) t (Some s)

abbrev pub parted : List Record → ℕ → ℕ → List Record
parted d s t = with_before (with_after d s None) t None

-- the net that begins at t is taken back to s, by the cell before s: without one s itself goes in front of t, else s is cut
-- off from that cell and begins a net, and that cell goes in front of t, or is freed if it is t
abbrev pub moved_by : Option ℕ → List Record → ℕ → ℕ → List Record
moved_by None d s t = linked (alone d s) s t
moved_by (Some u) d s t = cond (u == t) (slice_set (parted d u s) t Free) (linked (parted d u s) u t)

abbrev pub moved : List Record → ℕ → ℕ → List Record
moved d s t = moved_by (before_at d s) d s t

-- e is d with the pad p wired as well, to one more landing z, but for rings: every rule that looks at one cell holds
pub record Opened (m : Meaning) (d e : List Record) (p z : ℕ) : Type 0 where
  pub long : length e ≡ length d
  pub local : (c : ℕ) → Local m e c
  pub one_more : Same (wired e) (p ∷ wired d)
  pub same_bars : bars e ≡ bars d
  pub landing_used : Same (used m e) (z ∷ used m d)
