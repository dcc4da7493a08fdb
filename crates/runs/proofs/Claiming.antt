-- The whole claim, from an upheld history and one call more.
use Rattle.std.proofs.Common.{◌≡◌, ℕ, List, ◌∷◌, Result, subst}
use Rattle.boards.specs.Meaning.{Meaning}
use Rattle.records.specs.declared.record.Record.{Record}
use Rattle.records.specs.declared.refusal.Refusal.{Refusal}
use Rattle.runs.specs.declared.calls.Kind.{Kind}
use Rattle.runs.specs.Histories.{History, stands}
use Rattle.runs.specs.Claim.{Upholds, Claim}
use Rattle.runs.specs.Steps.{event, Performs}
use Rattle.runs.proofs.SameFences.{same_fences}
use Rattle.runs.proofs.Upheld.{step_upheld}

pub claim_of : (m : Meaning) (h : History) → Upholds m h → Claim m h
claim_of m h u = record {
  upholds = u;
  same_fences = λ m' h' e u'. same_fences m h h' u (subst (λ (x : Meaning). Upholds x h') e u');
}

module _ (m : Meaning) (h : History) (u : Upholds m h) (c : ℕ) (d e : List Record) (work work' report report' : List ℕ) (goes_on : d ≡ stands m h)
    (kind : Kind) (r : Result ℕ Refusal) (P : Performs m kind c d e work work' report report' r) where
  pub upholds_more : Upholds m (event kind c d e work work' report report' r ∷ h)
  upholds_more = (step_upheld m h u c d e work work' report report' goes_on kind r P, u)

  pub claims : Claim m (event kind c d e work work' report report' r ∷ h)
  claims = claim_of m _ upholds_more
