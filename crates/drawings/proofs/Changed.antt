-- Records after cells are freed or laid.
use Rattle.std.proofs.Common.{◌≡◌, ℕ, ◌<◌, ◌≤◌, List, [], ◌∷◌, length, get_or, drop, set, Some, None, sym, refl, ap, ◌∙◌, subst, ⊎_elim}
use Rattle.std.proofs.lemmas.List.{get_or_past, get_or-set_same, get_or-set_other, length-set, drop_more, drop_all}
use Rattle.std.proofs.lemmas.Bool.{cases_lt, cases_eq}
use Rattle.linkages.specs.Lists.{Mem, here, there, Distinct}
use Rattle.records.specs.declared.record.Record.{Record}
use Rattle.records.specs.declared.record.Record.TheVariants.{Free}
use Rattle.records.specs.Records.{after_of, is_last, record_at}
use Rattle.drawings.specs.Nets.{after_at, net, last_of, Runs, ends, goes}
use Rattle.drawings.specs.Changes.{freed, head_of}
use Rattle.linkages.proofs.Members.{mem_none, mem_at}
use Rattle.drawings.proofs.Follow.{run_distinct, net_run, net_here, run_step}

pub set_free : (d : List Record) (c : ℕ) → record_at (set d c Free) c ≡ Free
set_free d c = ⊎_elim
    (λ h. get_or-set_same d c Free Free h)
    (λ h. get_or_past (set d c Free) c Free (rw length-set h))
    (cases_lt c (length d))

pub set_other : (d : List Record) (c k : ℕ) (r : Record) → (k ≡ c → ⊥) → record_at (set d c r) k ≡ record_at d k
set_other d c k r ne = get_or-set_other d c k r Free ne

-- a free cell stays free
pub set_free_stays : (d : List Record) (c k : ℕ) → record_at d k ≡ Free → record_at (set d c Free) k ≡ Free
set_free_stays d c k h = ⊎_elim
    (λ (e : k ≡ c). ap (record_at (set d c Free)) e ∙ set_free d c)
    (λ ne. set_other d c k Free ne ∙ h)
    (cases_eq k c)

pub freed_long : (xs : List ℕ) (d : List Record) → length (freed xs d) ≡ length d
freed_long [] d = refl
freed_long (x ∷ xs) d = freed_long xs (set d x Free) ∙ length-set d x Free

pub freed_outside : (xs : List ℕ) (d : List Record) (k : ℕ) → (Mem k xs → ⊥) → record_at (freed xs d) k ≡ record_at d k
freed_outside [] d k n = refl
freed_outside (x ∷ xs) d k n = freed_outside xs (set d x Free) k (λ h. n (there h)) ∙ set_other d x k Free (λ e. n (here e))

pub freed_stays : (xs : List ℕ) (d : List Record) (k : ℕ) → record_at d k ≡ Free → record_at (freed xs d) k ≡ Free
freed_stays [] d k h = h
freed_stays (x ∷ xs) d k h = freed_stays xs (set d x Free) k (set_free_stays d x k h)

pub freed_inside : (xs : List ℕ) (d : List Record) (k : ℕ) → Mem k xs → record_at (freed xs d) k ≡ Free
freed_inside [] d k m = absurd (mem_none m)
freed_inside (x ∷ xs) d k (here e) = freed_stays xs (set d x Free) k (ap (record_at (set d x Free)) e ∙ set_free d x)
freed_inside (x ∷ xs) d k (there m) = freed_inside xs (set d x Free) k m

-- a run depends on the records of its own cells
pub run_kept : {d : List Record} {c : ℕ} {xs : List ℕ} (e : List Record) → Runs d c xs → ((k : ℕ) → Mem k xs → record_at e k ≡ record_at d k) → Runs e c xs
run_kept e (ends {c = c} p) f = ends (ap is_last (f c (here refl)) ∙ p)
run_kept e (goes {c = c} p r) f = goes (ap after_of (f c (here refl)) ∙ p) (run_kept e r (λ k m. f k (there m)))

-- one step of freeing a net
pub free_step : (d e : List Record) (c t : ℕ) → e ≡ set d c Free → Runs d c (net d c) → after_at d c ≡ Some t →
    Runs e t (net e t) × (net d c ≡ c ∷ net e t)
free_step d e c t same r q =
    let h = run_step t r q in
    let away = (subst Distinct h.2 (run_distinct r)).0 in
    let s = run_kept e h.1 (λ k m. ap (λ z. record_at z k) same ∙ set_other d c k Free (λ f. away (mem_at (sym f) m))) in
    (net_here s, h.2 ∙ ap (λ zs. c ∷ zs) (sym (net_run s)))

-- the last cell of a run does not depend on what there is if there is none
pub run_last : {d : List Record} {c : ℕ} {xs : List ℕ} (a b : ℕ) → Runs d c xs → last_of a xs ≡ last_of b xs
run_last a b (ends e) = refl
run_last a b (goes e r) = refl

-- the first cell of what is left of a list
pub head_drop : (xs : List ℕ) (j d : ℕ) → j < length xs → head_of (drop j xs) ≡ Some (get_or xs j d)
head_drop xs j d h = ap head_of (drop_more xs j d h)

pub head_dropped : (xs : List ℕ) (j : ℕ) → length xs ≤ j → head_of (drop j xs) ≡ None
head_dropped xs j h = ap head_of (drop_all j xs h)
