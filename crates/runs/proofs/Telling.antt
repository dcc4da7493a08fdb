-- The history that a list of calls tells, call by call.
use Rattle.std.proofs.Common.{◌≡◌, ℕ, suc, ◌+◌, ◌<◌, ◌≤◌, ◌≢◌, List, [], ◌∷◌, length, get_or, set, replicate, vec_items, Result, sym, refl, ap, ◌∙◌, subst, add-one, arith, get_or-set_other, get_or-set_same}
use Rattle.std.proofs.lemmas.List.{get_or_default}
use Rattle.boards.specs.Meaning.{Meaning}
use Rattle.records.specs.declared.record.Record.{Record}
use Rattle.records.specs.declared.record.Record.TheVariants.{Free}
use Rattle.records.specs.declared.refusal.Refusal.{Refusal}
use Rattle.records.specs.Records.{record_at}
use Rattle.drawings.specs.Outcomes.{Made}
use Rattle.runs.specs.declared.calls.Kind.{Kind}
use Rattle.runs.specs.declared.calls.Call.{Call}
use Rattle.runs.specs.Histories.{Event, History, stands}
use Rattle.runs.specs.Steps.{event, Performs}
use Rattle.runs.specs.Told.{Performed, EventOf, Told, nothing, then}

-- the same for other lists that say the same
pub performs_same : (m : Meaning) (kind : Kind) (c : ℕ) (d e : List Record) (r : Result ℕ Refusal) {work work' report report' v v' s s' : List ℕ} →
    v ≡ work → v' ≡ work' → s ≡ report → s' ≡ report' → Performs m kind c d e v v' s s' r → Performs m kind c d e work work' report report' r
performs_same m kind c d e r a b f g P = rw (a, b, f, g) at P

-- a drawing just made
free_list : (e : List Record) → ((k : ℕ) → record_at e k ≡ Free) → e ≡ replicate (length e) Free
free_list [] f = refl
free_list (x ∷ xs) f =
    let first : x ≡ Free = f 0 in
    let rest = free_list xs (λ k. f (suc k)) in
    ap (λ y. y ∷ xs) first ∙ ap (λ ys. Free ∷ ys) rest

pub fresh : (m : Meaning) (e : List Record) (x : ℕ) → Made m e x → e ≡ stands m []
fresh m e x M = free_list e M.free ∙ ap (λ n. replicate n Free) M.lawful.one_each

-- calls made later do not change what the first tell
pub told_same : {before after after' : List Call} {k : ℕ} {h : History} → Told before after k h →
    ((j : ℕ) (d : Call) → j < k → get_or after' j d ≡ get_or after j d) → Told before after' k h
told_same nothing same = nothing
told_same {before = before} (then {k = k} {e = e} t f) same =
    then (told_same t (λ j d l. same j d (omega arith)))
    (λ d. subst (EventOf e (get_or before k d)) (sym (same k d (omega arith))) (f d))

module _ (m : Meaning) (d e : List Record) (old xs : List Call) (i : ℕ) (r x : Call) (h : i < length xs) (P : Performed m d e (get_or xs i r) x)
    (rest : (k : ℕ) (q : Call) → i ≤ k → get_or xs k q ≡ get_or old k q) where
  abbrev call : Call
  call = get_or xs i r

  -- its event
  abbrev pub made : Event
  made = event call.order.kind call.order.cell d e (vec_items call.work) (vec_items x.work) (vec_items call.report) (vec_items x.report) P.answer

  here : (q : Call) → EventOf made (get_or old i q) (get_or (set xs i x) i q)
  here q =
      let was : call ≡ get_or old i q = get_or_default xs i r q h ∙ rest i q (omega arith) in
      let now : get_or (set xs i x) i q ≡ x = get_or-set_same xs i x q h in
      let same : EventOf made call x = record { kind = refl; cell = refl; work = refl; work_after = refl; report = refl; report_after = refl; answered = P.answered } in
      subst (λ (b : Call). EventOf made (get_or old i q) b) (sym now) (subst (λ (a : Call). EventOf made a x) was same)

  pub told_more : {g : History} → Told old xs i g → Told old (set xs i x) (i + 1) (made ∷ g)
  told_more {g} t =
      let t' = told_same {after' = set xs i x} t (λ j q l. let ne : j ≢ i = omega arith in get_or-set_other xs i j x q ne) in
      rw add-one (then t' here)

  pub later : (k : ℕ) (q : Call) → i + 1 ≤ k → get_or (set xs i x) k q ≡ get_or old k q
  later k q l = let ne : k ≢ i = omega arith in get_or-set_other xs i k x q ne ∙ rest k q (omega arith)
