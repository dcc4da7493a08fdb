-- One call, and the memory that it leaves.
use Rattle.std.proofs.Common.{◌≡◌, ℕ, ◌*◌, ◌≤◌, List, ◌∷◌, length, vec_items, Result, ap, ◌∙◌, subst, inl, inr, arith}
use Rattle.boards.specs.declared.place.Place.{Place}
use Rattle.boards.specs.Meaning.{Meaning}
use Rattle.records.specs.declared.record.Record.{Record}
use Rattle.records.specs.declared.refusal.Refusal.{Refusal}
use Rattle.runs.specs.declared.calls.Kind.{Kind}
use Rattle.runs.specs.Histories.{History, stands}
use Rattle.runs.specs.Claim.{Upholds, Claim}
use Rattle.runs.specs.Steps.{event, Performs}
use Rattle.job_answers.specs.Texts.{answer_line}
use Rattle.jobs.specs.declared.desk.Desk.{Desk}
use Rattle.jobs.specs.Calls.{Wish, call, Made, Answered, no_cell, called}
use Rattle.jobs.specs.Steps.{Ready, Called}

pub made_call : (m : Meaning) (kind : Kind) (c : ℕ) (r : Result ℕ Refusal) {d d' e e' : List Record} (w w' s s' : List ℕ) → d' ≡ d → e' ≡ e →
    4 * m.cells ≤ length w → 2 * m.cells ≤ length s → Performs m kind c d' e' w w' s s' r → Made m kind c d e r
made_call m kind c r {d} {d'} {e} {e'} w w' s s' a b lw ls P = record {
  work = w;
  work_after = w';
  report = s;
  report_after = s';
  work_long = lw;
  report_long = ls;
  performs = subst (λ (x : List Record). Performs m kind c d x w w' s s' r) b
      (subst (λ (x : List Record). Performs m kind c x e' w w' s s' r) a P);
}

pub ready_then : (m : Meaning) (kind : Kind) (c : ℕ) (r : Result ℕ Refusal) (desk desk' : Desk) {d e : List Record} {w w' s s' : List ℕ} → Ready m desk →
    d ≡ vec_items desk.drawing → vec_items desk'.drawing ≡ e → length (vec_items desk'.work) ≡ length (vec_items desk.work) →
    length (vec_items desk'.report) ≡ length (vec_items desk.report) →
    ((h : History) → Upholds m h → d ≡ stands m h → Claim m (event kind c d e w w' s s' r ∷ h)) → Ready m desk'
ready_then m kind c r desk desk' {d} {e} {w} {w'} {s} {s'} R a b lw ls claim = record {
  history = event kind c d e w w' s s' r ∷ R.history;
  upholds = (claim R.history R.upholds (a ∙ R.left)).upholds;
  left = b;
  work_long = omega (arith, R.work_long);
  report_long = omega (arith, R.report_long);
}

-- other contents of report memory do not matter
pub ready_report : (m : Meaning) (desk desk' : Desk) → Ready m desk → vec_items desk'.drawing ≡ vec_items desk.drawing →
    vec_items desk'.work ≡ vec_items desk.work → length (vec_items desk'.report) ≡ length (vec_items desk.report) → Ready m desk'
ready_report m desk desk' R a b l = record {
  history = R.history;
  upholds = R.upholds;
  left = a ∙ R.left;
  work_long = omega (arith, R.work_long, ap length b);
  report_long = omega (arith, R.report_long);
}

-- the answer line of a call
pub call_answered : (m : Meaning) (ps : List Place) (d e : List Record) (kind : Kind) (q : Place) (r : Result ℕ Refusal) (said : List ℕ) {w : Wish} → w ≡ call kind →
    Called m ps d e kind q r → said ≡ answer_line r → Answered m ps d w q e said
call_answered m ps d e kind q r said {w} i C s =
    rw (i, s) (go C)
  where
    go : Called m ps d e kind q r → Answered m ps d (call kind) q e (answer_line r)
    go (inl h) = rw (h.2, h.1) (no_cell h.0)
    go (inr h) = called h.1 h.2
