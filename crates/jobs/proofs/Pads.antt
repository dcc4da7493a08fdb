-- The pads of a job: those of the code, and the same as plain data.
use Rattle.std.proofs.Common.{◌≡◌, ℕ, ◌<◌, List, map, length, Some, None, MatchOption, Option, sym, refl, ap, ◌∙◌, arith}
use Rattle.std.specs.List.{AllWithin, HoldsAt}
use Rattle.std.specs.Borrow.{Bor}
use Rattle.linkages.specs.Lists.{Mem}
use Rattle.job_boards.specs.declared.plan.Pad.{Pad}
use Rattle.job_boards.specs.Plans.{Named}
use Rattle.job_boards.specs.Reading.{named}
use Rattle.job_boards.proofs.Pads.{named_there, named_from}
use Rattle.jobs.specs.Calls.{top_of}

-- what a search by the name gives: the first pad that has it, or none has
module _ (n : List ℕ) (pads : List Pad) (r : Option (Bor Pad)) where
  abbrev pub Found : Type 0
  Found = MatchOption r (AllWithin (λ x. x.name.now ≡ n → ⊥) pads 0 (length pads))
      (λ x. (x.now.name.now ≡ n) × (i : ℕ) × (i < length pads) × HoldsAt (λ y. y ≡ x.now) pads i × AllWithin (λ y. y.name.now ≡ n → ⊥) pads 0 i)

  pub somebody : (x : Bor Pad) → Found → r ≡ Some x → (q : Named) × Mem q (map named pads) × (q.name ≡ n) × (top_of (named x.now) ≡ top_of q)
  somebody x f e = let h = rw e at f in (named x.now, named_there pads h.1 x.now h.2 (h.3 x.now), h.0, refl)

  pub nobody : Found → r ≡ None → (q : Named) → Mem q (map named pads) → q.name ≡ n → ⊥
  nobody f e q m i =
      let none = rw e at f in
      let h = named_from pads q m in
      none h.0 h.1 (omega arith) h.2 (ap (λ (x : Pad). x.name.now) h.3 ∙ sym (ap (λ (x : Named). x.name) h.4) ∙ i)
