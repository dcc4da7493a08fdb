-- Following a net.
use Rattle.std.proofs.Common.{◌≡◌, ℕ, zero, suc, ◌+◌, ◌<◌, ◌≤◌, true, List, [], ◌∷◌, length, Some, None, Option, sym, refl, ap, ◌∙◌, subst, arith}
use Rattle.std.proofs.lemmas.Bool.{both_ways}
use Rattle.boards.specs.Meaning.{Meaning}
use Rattle.linkages.specs.Lists.{Mem, here, there, Distinct}
use Rattle.records.specs.declared.record.Record.{Record}
use Rattle.records.specs.Records.{record_at}
use Rattle.drawings.specs.Nets.{before_at, after_at, net_at, first_at, onward, net, Runs, ends, goes}
use Rattle.drawings.specs.Lawful.{Local, Reached, first, next}
use Rattle.linkages.proofs.Members.{mem_none, mem_at}
use Rattle.drawings.proofs.Cells.{length_below}
use Rattle.drawings.proofs.Said.{none_not_some, some_same, before_net, after_net, first_net, last_net, net_last, net_first, net_inside}

-- ---- going on from a cell, in any drawing

-- no more cells are met than asked for
pub onward_short : (d : List Record) (o : Option ℕ) (k : ℕ) → length (onward d o k) ≤ k
onward_short d None k = omega arith
onward_short d (Some c) zero = omega arith
onward_short d (Some c) (suc k) = omega (arith, onward_short d (after_at d c) k)

-- ---- a run, of any drawing

pub run_first : {d : List Record} {c : ℕ} {xs : List ℕ} → Runs d c xs → Mem c xs
run_first (ends e) = here refl
run_first (goes e r) = here refl

pub run_some : {d : List Record} {c : ℕ} {xs : List ℕ} → Runs d c xs → 0 < length xs
run_some (ends e) = omega arith
run_some (goes e r) = omega arith

pub run_net : {d : List Record} {c x : ℕ} {xs : List ℕ} → Runs d c xs → Mem x xs → net_at d x ≡ true
run_net {d} (ends {c = c} e) (here f) = ap (net_at d) f ∙ (last_net (record_at d c) e).0
run_net (ends e) (there m) = absurd (mem_none m)
run_net {d} (goes {c = c} {t = t} e r) (here f) = ap (net_at d) f ∙ (after_net (record_at d c) t e).0
run_net (goes e r) (there m) = run_net r m

-- there is one run from a cell
pub run_same : {d : List Record} {c : ℕ} {xs ys : List ℕ} → Runs d c xs → Runs d c ys → xs ≡ ys
run_same (ends e) (ends f) = refl
run_same {d} (ends {c = c} e) (goes {t = t} f r) = absurd (none_not_some (sym (last_net (record_at d c) e).1 ∙ f))
run_same {d} (goes {c = c} {t = t} f r) (ends e) = absurd (none_not_some (sym (last_net (record_at d c) e).1 ∙ f))
run_same {d} (goes {c = c} e r) (goes {xs = ys} f s) =
    ap (λ zs. c ∷ zs) (run_same r (subst (λ v. Runs d v ys) (some_same f e) s))

-- a run goes on from each of its cells, and is no longer there
pub run_from : {d : List Record} {c x : ℕ} {xs : List ℕ} → Runs d c xs → Mem x xs → (ys : List ℕ) × Runs d x ys × (length ys ≤ length xs)
run_from {d} (ends {c = c} e) (here f) = (c ∷ [], subst (λ v. Runs d v (c ∷ [])) (sym f) (ends e), omega arith)
run_from (ends e) (there m) = absurd (mem_none m)
run_from {d} (goes {c = c} {xs = xs} e r) (here f) = (c ∷ xs, subst (λ v. Runs d v (c ∷ xs)) (sym f) (goes e r), omega arith)
run_from (goes e r) (there m) = let h = run_from r m in (h.0, h.1, omega (arith, h.2))

pub run_distinct : {d : List Record} {c : ℕ} {xs : List ℕ} → Runs d c xs → Distinct xs
run_distinct (ends e) = (mem_none, tt)
run_distinct {d} (goes {c = c} {xs = xs} e r) =
    (λ m. let h = run_from r m in let z : ⊥ = omega (arith, h.2, ap length (run_same h.1 (goes e r))) in z, run_distinct r)

pub run_short : {d : List Record} {c : ℕ} {xs : List ℕ} → Runs d c xs → length xs ≤ length d
run_short {d} {c} {xs} r = length_below (length d) xs (run_distinct r) (λ x m. net_inside d x (run_net r m))

pub run_next : {d : List Record} {c s t : ℕ} {xs : List ℕ} → Runs d c xs → Mem s xs → after_at d s ≡ Some t → Mem t xs
run_next {d} (ends {c = c} e) (here f) q = absurd (none_not_some (sym (last_net (record_at d c) e).1 ∙ (sym (ap (after_at d) f) ∙ q)))
run_next (ends e) (there m) q = absurd (mem_none m)
run_next {d} (goes e r) (here f) q = there (mem_at (some_same q (ap (after_at d) f ∙ e)) (run_first r))
run_next (goes e r) (there m) q = there (run_next r m q)

-- the cells met by going on are those of the run
onward_run : {d : List Record} {c : ℕ} {xs : List ℕ} (k : ℕ) → Runs d c xs → length xs ≤ k → onward d (Some c) k ≡ xs
onward_run zero r h = let z : ⊥ = omega (arith, run_some r) in absurd z
onward_run {d} (suc k) (ends {c = c} e) h = ap (λ o. c ∷ onward d o k) (last_net (record_at d c) e).1
onward_run {d} (suc k) (goes {c = c} {t = t} e r) h = ap (λ o. c ∷ onward d o k) e ∙ ap (λ zs. c ∷ zs) (onward_run k r (omega arith))

pub net_run : {d : List Record} {c : ℕ} {xs : List ℕ} → Runs d c xs → net d c ≡ xs
net_run {d} r = onward_run (length d) r (run_short r)

-- one step along a run
pub run_step : {d : List Record} {c : ℕ} {xs : List ℕ} (t : ℕ) → Runs d c xs → after_at d c ≡ Some t → (ys : List ℕ) × Runs d t ys × (xs ≡ c ∷ ys)
run_step {d} t (ends {c = c} e) q = absurd (none_not_some (sym (last_net (record_at d c) e).1 ∙ q))
run_step {d} t (goes {xs = ys} e r) q = (ys, subst (λ v. Runs d v ys) (some_same e q) r, refl)

-- and its end
pub run_stop : {d : List Record} {c : ℕ} {xs : List ℕ} → Runs d c xs → after_at d c ≡ None → xs ≡ c ∷ []
run_stop (ends e) q = refl
run_stop (goes {t = t} e r) q = absurd (none_not_some (sym q ∙ e))

-- the same of a net
pub net_here : {d : List Record} {c : ℕ} {xs : List ℕ} → Runs d c xs → Runs d c (net d c)
net_here {d} {c} r = subst (Runs d c) (sym (net_run r)) r

pub net_step : (d : List Record) (c t : ℕ) → Runs d c (net d c) → after_at d c ≡ Some t → Runs d t (net d t) × (net d c ≡ c ∷ net d t)
net_step d c t r q = let h = run_step t r q in (net_here h.1, h.2 ∙ ap (λ zs. c ∷ zs) (sym (net_run h.1)))

pub net_stop : (d : List Record) (c : ℕ) → Runs d c (net d c) → after_at d c ≡ None → net d c ≡ c ∷ []
net_stop d c r q = run_stop r q

-- ---- with the local rules

-- c is reached from the first cell f, and xs are the cells before it, the nearest first
pub data Back (d : List Record) (f : ℕ) : ℕ → List ℕ → Type 0 where
  at_first : {c : ℕ} → c ≡ f → first_at d c ≡ true → Back d f c []
  past : {s c : ℕ} {xs : List ℕ} → Back d f s xs → after_at d s ≡ Some c → Back d f c (s ∷ xs)

module _ (m : Meaning) (d : List Record) (L : (c : ℕ) → Local m d c) where
  pub not_first : (s c : ℕ) → after_at d s ≡ Some c → first_at d c ≡ true → ⊥
  not_first s c q p = both_ways (first_at d c) (before_net (record_at d c) s ((L s).after_names_back c q)).1 p

  -- a cell is reached in one way
  pub back_same : {f g c : ℕ} {xs ys : List ℕ} → Back d f c xs → Back d g c ys → (f ≡ g) × (length xs ≡ length ys)
  back_same (at_first e p) (at_first e' p') = (sym e ∙ e', refl)
  back_same (at_first {c = c} e p) (past {s = s} B q) = absurd (not_first s c q p)
  back_same (past {s = s} {c = c} B q) (at_first e p) = absurd (not_first s c q p)
  back_same {g = g} (past {s = s} {c = c} B q) (past {s = u} {xs = ys} C q') =
      let same = some_same ((L u).after_names_back c q') ((L s).after_names_back c q) in
      let h = back_same B (subst (λ v. Back d g v ys) same C) in (h.0, ap suc h.1)

  earlier : {f c x : ℕ} {xs : List ℕ} → Back d f c xs → Mem x xs → (ys : List ℕ) × Back d f x ys × (length ys < length xs)
  earlier (at_first e p) k = absurd (mem_none k)
  earlier {f} (past {xs = xs} B q) (here e) = (xs, subst (λ v. Back d f v xs) (sym e) B, omega arith)
  earlier (past B q) (there k) = let h = earlier B k in (h.0, h.1, omega (arith, h.2))

  -- what comes before a cell is different from it
  back_away : {f c : ℕ} {xs : List ℕ} → Back d f c xs → Mem c xs → ⊥
  back_away B k = let h = earlier B k in let z : ⊥ = omega (arith, h.2, (back_same B h.1).1) in z

  back_distinct : {f c : ℕ} {xs : List ℕ} → Back d f c xs → Distinct (c ∷ xs)
  back_distinct (at_first e p) = (mem_none, tt)
  back_distinct (past B q) = (back_away (past B q), back_distinct B)

  back_net : {f c : ℕ} {xs : List ℕ} → Back d f c xs → net_at d c ≡ true
  back_net (at_first {c = c} e p) = first_net (record_at d c) p
  back_net (past {s = s} {c = c} B q) = (before_net (record_at d c) s ((L s).after_names_back c q)).0

  back_cells : {f x c : ℕ} {xs : List ℕ} → Back d f c xs → Mem x (c ∷ xs) → x < length d
  back_cells {x = x} B (here e) = net_inside d x (ap (net_at d) e ∙ back_net B)
  back_cells (at_first e p) (there k) = absurd (mem_none k)
  back_cells (past B q) (there k) = back_cells B k

  run_on : {f c : ℕ} {xs : List ℕ} (k : ℕ) → Back d f c xs → length d ≤ k + length xs → Runs d c (onward d (Some c) k)
  run_on {c = c} {xs = xs} zero B h =
      let z : ⊥ = omega (arith, length_below (length d) (c ∷ xs) (back_distinct B) (λ x k. back_cells B k)) in absurd z
  run_on {f} {c} {xs} (suc k) B h = go (after_at d c) refl (λ t e. run_on k (past B e) (omega arith))
    where
      go : (o : Option ℕ) → after_at d c ≡ o → ((t : ℕ) → after_at d c ≡ Some t → Runs d t (onward d (Some t) k)) → Runs d c (c ∷ onward d o k)
      go None e rec = ends (net_last (record_at d c) (back_net B) e)
      go (Some t) e rec = goes e (rec t e)

  back_first : {f c : ℕ} {xs : List ℕ} → Back d f c xs → first_at d f ≡ true
  back_first (at_first e p) = subst (λ x. first_at d x ≡ true) e p
  back_first (past B q) = back_first B

  -- the net of a first cell comes to an end
  pub net_runs : (f : ℕ) → first_at d f ≡ true → Runs d f (net d f)
  net_runs f p = run_on (length d) (at_first refl p) (omega arith)

  -- and its cells are reached from there
  run_back : {f x c : ℕ} {bs xs : List ℕ} → Back d f c bs → Runs d c xs → Mem x xs → (ys : List ℕ) × Back d f x ys
  run_back {f} {bs = bs} B (ends e) (here g) = (bs, subst (λ v. Back d f v bs) (sym g) B)
  run_back B (ends e) (there k) = absurd (mem_none k)
  run_back {f} {bs = bs} B (goes e r) (here g) = (bs, subst (λ v. Back d f v bs) (sym g) B)
  run_back B (goes e r) (there k) = run_back (past B e) r k

  pub net_back : (f x : ℕ) → first_at d f ≡ true → Mem x (net d f) → (ys : List ℕ) × Back d f x ys
  net_back f x p k = run_back (at_first refl p) (net_runs f p) k

  pub back_on : {f c : ℕ} {xs : List ℕ} → Back d f c xs → Mem c (net d f)
  back_on {f} (at_first {c = c} e p) = mem_at e (run_first (net_runs f (subst (λ x. first_at d x ≡ true) e p)))
  back_on {f} (past B q) = run_next (net_runs f (back_first B)) (back_on B) q

  -- no cell is on two nets
  pub nets_apart : (f g x : ℕ) → first_at d f ≡ true → first_at d g ≡ true → Mem x (net d f) → Mem x (net d g) → f ≡ g
  nets_apart f g x p q k l = (back_same (net_back f x p k).1 (net_back g x q l).1).0

  back_reached : {f c : ℕ} {xs : List ℕ} → Back d f c xs → Reached d c
  back_reached (at_first e p) = first p
  back_reached (past B q) = next (back_reached B) q

  pub net_reached : (f x : ℕ) → first_at d f ≡ true → Mem x (net d f) → Reached d x
  net_reached f x p k = back_reached (net_back f x p k).1

  pub reached_net : {c : ℕ} → Reached d c → (f : ℕ) × (first_at d f ≡ true) × Mem c (net d f)
  reached_net (first {c = c} p) = (c, p, run_first (net_runs c p))
  reached_net (next r q) = let h = reached_net r in (h.0, h.1, run_next (net_runs h.0 h.1) h.2 q)

  -- what leads to a reached cell is reached
  pub reached_before : {t : ℕ} (s : ℕ) → Reached d t → after_at d s ≡ Some t → Reached d s
  reached_before s (first {c = t} p) q = absurd (not_first s t q p)
  reached_before s (next {s = u} {c = t} r e) q =
      subst (Reached d) (some_same ((L u).after_names_back t e) ((L s).after_names_back t q)) r

  -- going back from a run comes to a first cell
  run_up : {c : ℕ} {xs : List ℕ} (k : ℕ) → Runs d c xs → length d < k + length xs →
      (f : ℕ) × (ys : List ℕ) × (first_at d f ≡ true) × Runs d f ys × ((x : ℕ) → Mem x xs → Mem x ys)
  run_up zero r h = let z : ⊥ = omega (arith, run_short r) in absurd z
  run_up {c} {xs} (suc k) r h = go (before_at d c) refl (λ s e. run_up k (goes ((L c).before_names_on s e) r) (omega arith))
    where
      go : (o : Option ℕ) → before_at d c ≡ o →
          ((s : ℕ) → before_at d c ≡ Some s →
          (f : ℕ) × (ys : List ℕ) × (first_at d f ≡ true) × Runs d f ys × ((x : ℕ) → Mem x (s ∷ xs) → Mem x ys)) →
          (f : ℕ) × (ys : List ℕ) × (first_at d f ≡ true) × Runs d f ys × ((x : ℕ) → Mem x xs → Mem x ys)
      go None e rec = (c, xs, net_first (record_at d c) (run_net r (run_first r)) e, r, λ x i. i)
      go (Some s) e rec = let h = rec s e in (h.0, h.1, h.2, h.3, λ x i. h.4 x (there i))

  -- so a cell from which a net comes to an end is reached; a ring has no end
  pub run_reached : {c : ℕ} {xs : List ℕ} → Runs d c xs → Reached d c
  run_reached {c} r =
      let h = run_up (suc (length d)) r (omega arith) in
      net_reached h.0 c h.2 (subst (Mem c) (sym (net_run h.3)) (h.4 c (run_first r)))
