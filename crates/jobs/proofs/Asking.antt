-- What call lines ask for.
use Rattle.std.proofs.Common.{◌≡◌, ℕ, List, Ok, subst}
use Rattle.boards.specs.declared.place.Place as boards
use Rattle.linkages.specs.Lists.{Mem}
use Rattle.runs.specs.declared.calls.Kind.TheVariants as kind
use Rattle.job_lines.specs.Grammar.{Form, place, lift, bar, clear, show}
use Rattle.job_boards.specs.Plans.{Named, Plan, at_place}
use Rattle.job_boards.specs.Faults.{call_lines, Wrong, NoneIn, checks, HasName}
use Rattle.jobs.specs.Calls.{Wish, call, course_of, Asks, place_pad, lift_pad, show_pad, bar_cell, clear_cell}
use Rattle.jobs.specs.Steps.{FindsPad}

-- a line of the form f, of which nothing is wrong
abbrev pub Right : Plan → Form → Wish → boards.Place → Type 0
Right p f w at = NoneIn checks (Wrong (call_lines p) f) × Asks p f w at

module _ (p : Plan) (pads : List Named) (n : List ℕ) (at : boards.Place) (same : pads ≡ p.pads) (found : FindsPad pads n (Ok at)) where
  there : Mem found.0 p.pads
  there = subst (Mem found.0) same found.1

  has : HasName p n
  has = (found.0, there, found.2)

  pub place_asked : Right p (place n) (call kind.Place) at
  place_asked = ((λ x. x, (λ none. none has, (λ x. x, (λ x. x, tt)))), rw found.3 (place_pad found.0 there found.2))

  pub lift_asked : Right p (lift n) (call kind.Lift) at
  lift_asked = ((λ x. x, (λ none. none has, (λ x. x, (λ x. x, tt)))), rw found.3 (lift_pad found.0 there found.2))

  pub show_asked : Right p (show n) (course_of n) at
  show_asked = ((λ x. x, (λ none. none has, (λ x. x, (λ x. x, tt)))), rw found.3 (show_pad found.0 there found.2))

pub bar_asked : (p : Plan) (l r c : ℕ) → Right p (bar l r c) (call kind.Bar) (at_place l r c)
bar_asked p l r c = ((λ x. x, (λ x. x, (λ x. x, (λ x. x, tt)))), bar_cell)

pub clear_asked : (p : Plan) (l r c : ℕ) → Right p (clear l r c) (call kind.Clear) (at_place l r c)
clear_asked p l r c = ((λ x. x, (λ x. x, (λ x. x, (λ x. x, tt)))), clear_cell)
