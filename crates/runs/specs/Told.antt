-- The history that a list of calls tells, from what each call was and what it is once it was made.
use Rattle.std.specs.Prelude.{◌≡◌, ℕ, suc, List, [], ◌∷◌, length, Some, vec_items, Result, slice_index_or}
use Rattle.boards.specs.Meaning.{Meaning}
use Rattle.records.specs.declared.record.Record.{Record}
use Rattle.records.specs.declared.refusal.Refusal.{Refusal}
use Rattle.runs.specs.declared.calls.Call.{Call}
use Rattle.runs.specs.Histories.{Event, History, stands}
use Rattle.runs.specs.Claim.{Claim}
use Rattle.runs.specs.Steps.{Performs}

-- the call a was made, and is b then
pub record Performed (m : Meaning) (d e : List Record) (a b : Call) : Type 0 where
  pub kind_kept : b.order.kind ≡ a.order.kind
  pub cell_kept : b.order.cell ≡ a.order.cell
  pub answer : Result ℕ Refusal
  pub answered : b.answer ≡ Some answer
  pub performs : Performs m a.order.kind a.order.cell d e (vec_items a.work) (vec_items b.work) (vec_items a.report) (vec_items b.report) answer

-- the event of a call that was a and is b now
pub record EventOf (e : Event) (a b : Call) : Type 0 where
  pub kind : e.kind ≡ a.order.kind
  pub cell : e.cell ≡ a.order.cell
  pub work : e.work ≡ vec_items a.work
  pub work_after : e.work_after ≡ vec_items b.work
  pub report : e.report ≡ vec_items a.report
  pub report_after : e.report_after ≡ vec_items b.report
  pub answered : b.answer ≡ Some e.answer

-- the history of the first k calls
pub data Told (before after : List Call) : ℕ → History → Type 0 where
  nothing : Told before after 0 []
  then : {k : ℕ} {e : Event} {h : History} → Told before after k h → ((d : Call) → EventOf e (slice_index_or before k d) (slice_index_or after k d)) →
      Told before after (suc k) (e ∷ h)

-- the calls tell a history of which the whole claim holds, and which ends in the drawing
pub record Ran (m : Meaning) (drawing : List Record) (before after : List Call) : Type 0 where
  pub history : History
  pub told : Told before after (length before) history
  pub claim : Claim m history
  pub ends : drawing ≡ stands m history
  pub as_many : length after ≡ length before
