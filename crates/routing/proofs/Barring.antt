-- Barring a free cell; taking up a net and laying it again.
use Rattle.std.proofs.Common.{◌≡◌, ℕ, ◌<◌, true, false, not, eqb, List, [], ◌∷◌, length, set, Some, None, Option, sym, refl, ap, ◌∙◌, subst, ⊎_elim, arith}
use Rattle.std.proofs.lemmas.List.{get_or-set_same, get_or-set_other, length-set, ext_get_or}
use Rattle.std.proofs.lemmas.Bool.{both_ways, false≢true, cases_eq, ne_eqb}
use Rattle.boards.specs.Meaning.{Meaning}
use Rattle.linkages.specs.Lists.{Mem, here, there, Same}
use Rattle.linkages.specs.Paths.{CanBeMet}
use Rattle.linkages.proofs.Members.{mem_none, mem_cases, mem_at, dec_mem, mem_kept, mem_of_kept}
use Rattle.linkages.proofs.Fewer.{linkage_for_less}
use Rattle.linkages.proofs.SameMembers.{fence_by_members}
use Rattle.records.specs.declared.record.Record.{Record}
use Rattle.records.specs.declared.record.Record.TheVariants.{Free, Barred, Net}
use Rattle.records.specs.Records.{before_of, after_of, is_net, is_first, is_last, is_barred, record_at}
use Rattle.drawings.specs.Nets.{before_at, after_at, net_at, first_at, barred_at, wired, bars, net, without, Runs, ends, goes}
use Rattle.drawings.specs.Lawful.{Local, Reached, first, next, Lawful}
use Rattle.drawings.specs.Changes.{freed, head_of, laid_after, laid}
use Rattle.drawings.proofs.Said.{after_net, first_net, last_net, net_inside}
use Rattle.drawings.proofs.Cells.{kept_below, below_kept}
use Rattle.drawings.proofs.Follow.{run_first, run_net, run_from, run_distinct, net_run, net_here, net_runs, reached_net}
use Rattle.drawings.proofs.Freeing.{frees, lift_lawful, lift_wired, lift_bars, cells_same}
use Rattle.drawings.proofs.Changed.{freed_long, freed_inside, freed_outside}
use Rattle.drawings.proofs.Linking.{linked}
use Rattle.routing.specs.Outcomes.{Zeroed, FenceShown, WiredAlso, BarredAlso, BarredAs}

-- ---- a free cell barred

module _ (m : Meaning) (d : List Record) (c : ℕ) (W : Lawful m d) (free : record_at d c ≡ Free) (l : c < length d) where
  bar_here : record_at (set d c Barred) c ≡ Barred
  bar_here = get_or-set_same d c Barred Free l

  -- a question that does not tell a bar from a free cell has the same answer
  bar_same : {X : Type 0} (f : Record → X) → f Barred ≡ f Free → (k : ℕ) → f (record_at (set d c Barred) k) ≡ f (record_at d k)
  bar_same f e k = ⊎_elim
      (λ (h : k ≡ c). ap (λ v. f (record_at (set d c Barred) v)) h ∙ (ap f bar_here ∙ (e ∙ (sym (ap f free) ∙ sym (ap (λ v. f (record_at d v)) h)))))
      (λ ne. ap f (get_or-set_other d c k Barred Free ne))
      (cases_eq k c)

  bar_reached : {k : ℕ} → Reached d k → Reached (set d c Barred) k
  bar_reached (first {c = k} p) = first (bar_same is_first refl k ∙ p)
  bar_reached (next {s = s} r q) = next (bar_reached r) (bar_same after_of refl s ∙ q)

  pub bar_lawful : Lawful m (set d c Barred)
  bar_lawful = record {
    one_each = length-set d c Barred ∙ W.one_each;
    local = λ k. record {
      first_is_pad = λ h. (W.local k).first_is_pad (sym (bar_same is_first refl k) ∙ h);
      last_is_landing = λ h. (W.local k).last_is_landing (sym (bar_same is_last refl k) ∙ h);
      landing_is_last = λ h e. bar_same is_last refl k ∙ (W.local k).landing_is_last (sym (bar_same is_net refl k) ∙ h) e;
      after_is_outlet = λ t h. (W.local k).after_is_outlet t (sym (bar_same after_of refl k) ∙ h);
      after_names_back = λ t h. bar_same before_of refl t ∙ (W.local k).after_names_back t (sym (bar_same after_of refl k) ∙ h);
      before_names_on = λ s h. bar_same after_of refl s ∙ (W.local k).before_names_on s (sym (bar_same before_of refl k) ∙ h);
    };
    reached = λ k h. bar_reached (W.reached k (sym (bar_same is_net refl k) ∙ h));
  }

  pub bar_wired : wired (set d c Barred) ≡ wired d
  bar_wired = cells_same d (set d c Barred) (first_at (set d c Barred)) (first_at d) (length-set d c Barred) (bar_same is_first refl)

  pub bar_bars : Same (bars (set d c Barred)) (c ∷ bars d)
  bar_bars = (
    λ k i. let h = kept_below (barred_at (set d c Barred)) (length (set d c Barred)) k i in
        ⊎_elim
        (λ (e : k ≡ c). here e)
        (λ ne. there (below_kept (barred_at d) (length d) k (subst (λ n. k < n) (length-set d c Barred) h.0) (sym (ap is_barred (get_or-set_other d c k Barred Free ne)) ∙ h.1)))
        (cases_eq k c),
    λ k i. let long = length-set d c Barred in
        ⊎_elim
        (λ (e : k ≡ c). below_kept (barred_at (set d c Barred)) (length (set d c Barred)) k (omega arith)
        (ap (λ v. is_barred (record_at (set d c Barred) v)) e ∙ ap is_barred bar_here))
        (λ j. let h = kept_below (barred_at d) (length d) k j in
        let ne : k ≡ c → ⊥ = λ e. false≢true (sym (ap is_barred free) ∙ sym (ap (λ v. is_barred (record_at d v)) e) ∙ h.1) in
        below_kept (barred_at (set d c Barred)) (length (set d c Barred)) k (omega (arith, h.0)) (ap is_barred (get_or-set_other d c k Barred Free ne) ∙ h.1))
        (mem_cases i),
  )

  pub bar_free : BarredAlso m d (set d c Barred) c
  bar_free = record {
    lawful = bar_lawful;
    same_wired = (λ k i. subst (Mem k) bar_wired i, λ k i. subst (Mem k) (sym bar_wired) i);
    one_more = bar_bars;
  }

-- ---- back along a net

pub net_begins : (m : Meaning) (d : List Record) → Lawful m d → (c : ℕ) → net_at d c ≡ true → Runs d c (net d c) × Mem c (net d c)
net_begins m d W c h =
    let r = reached_net m d W.local (W.reached c h) in
    let s = run_from (net_runs m d W.local r.0 r.1) r.2 in
    let t = net_here s.1 in (t, run_first t)

pub net_back_step : (m : Meaning) (d : List Record) → Lawful m d → (c u : ℕ) → before_at d c ≡ Some u → Runs d c (net d c) →
    (net_at d u ≡ true) × Runs d u (net d u) × (net d u ≡ u ∷ net d c)
net_back_step m d W c u e r =
    let a = (W.local c).before_names_on u e in
    let s = goes a r in
    ((after_net (record_at d u) c a).0, net_here s, net_run s)

-- ---- a net laid again

record_is : (r : Record) (b a : Option ℕ) → is_net r ≡ true → before_of r ≡ b → after_of r ≡ a → Net b a ≡ r
record_is Free b a n e f = absurd (false≢true n)
record_is Barred b a n e f = absurd (false≢true n)
record_is (Net x y) b a n e f = ap (λ v. Net v a) (sym e) ∙ ap (λ v. Net x v) (sym f)

run_head : {d : List Record} {c : ℕ} {xs : List ℕ} → Runs d c xs → head_of xs ≡ Some c
run_head (ends e) = refl
run_head (goes e r) = refl

laid_long : (b : Option ℕ) (xs : List ℕ) (D : List Record) → length (laid_after b xs D) ≡ length D
laid_long b [] D = refl
laid_long b (x ∷ xs) D = laid_long (Some x) xs (set D x (Net b (head_of xs))) ∙ length-set D x (Net b (head_of xs))

laid_outside : (b : Option ℕ) (xs : List ℕ) (D : List Record) (k : ℕ) → (Mem k xs → ⊥) → record_at (laid_after b xs D) k ≡ record_at D k
laid_outside b [] D k n = refl
laid_outside b (x ∷ xs) D k n =
    laid_outside (Some x) xs (set D x (Net b (head_of xs))) k (λ i. n (there i)) ∙ get_or-set_other D x k (Net b (head_of xs)) Free (λ e. n (here e))

module _ (m : Meaning) (d : List Record) (L : (c : ℕ) → Local m d c) where
  -- the first cell of what is laid, as it was
  laid_first : {c : ℕ} {xs : List ℕ} (D : List Record) (b a : Option ℕ) → (Mem c xs → ⊥) → c < length D → net_at d c ≡ true → before_at d c ≡ b → after_at d c ≡ a →
      a ≡ head_of xs → record_at (laid_after (Some c) xs (set D c (Net b (head_of xs)))) c ≡ record_at d c
  laid_first {c} {xs} D b a away l n e f h =
      laid_outside (Some c) xs (set D c (Net b (head_of xs))) c away ∙
      (get_or-set_same D c (Net b (head_of xs)) Free l ∙ record_is (record_at d c) b (head_of xs) n e (f ∙ h))

  relaid : {c k : ℕ} {xs : List ℕ} (D : List Record) (b : Option ℕ) → Runs d c xs → before_at d c ≡ b → ((v : ℕ) → Mem v xs → v < length D) → Mem k xs →
      record_at (laid_after b xs D) k ≡ record_at d k
  relaid {k = k} D b (ends {c = c} p) e inside (here f) =
      let q = last_net (record_at d c) p in
      subst (λ v. record_at (laid_after b (c ∷ []) D) v ≡ record_at d v) (sym f)
      (laid_first {xs = []} D b None mem_none (inside c (here refl)) q.0 e q.1 refl)
  relaid D b (ends p) e inside (there i) = absurd (mem_none i)
  relaid {k = k} D b (goes {c = c} {t = t} {xs = xs} p r) e inside (here f) =
      subst (λ v. record_at (laid_after b (c ∷ xs) D) v ≡ record_at d v) (sym f)
      (laid_first D b (Some t) (run_distinct (goes p r)).0 (inside c (here refl)) (after_net (record_at d c) t p).0 e p (sym (run_head r)))
  relaid D b (goes {c = c} {t = t} {xs = xs} p r) e inside (there i) =
      relaid (set D c (Net b (head_of xs))) (Some c) r ((L c).after_names_back t p)
      (λ v j. subst (λ n. v < n) (sym (length-set D c (Net b (head_of xs)))) (inside v (there j))) i

-- ---- the net of a pad taken up and a cell of it barred

none_before : (r : Record) → is_first r ≡ true → before_of r ≡ None
none_before Free e = refl
none_before Barred e = refl
none_before (Net None a) e = refl
none_before (Net (Some s) a) e = absurd (false≢true e)

-- the drawing with the net of q taken up and c barred
abbrev pub shut_in : List Record → ℕ → ℕ → List Record
shut_in d q c = set (freed (net d q) d) c Barred

module _ (m : Meaning) (d : List Record) (q c : ℕ) (W : Lawful m d) (p : first_at d q ≡ true) (on : Mem c (net d q)) where
  pub pad_runs : Runs d q (net d q)
  pad_runs = net_runs m d W.local q p

  pub shut_long : length (shut_in d q c) ≡ length d
  shut_long = length-set (freed (net d q) d) c Barred ∙ freed_long (net d q) d

  shut_inside : c < length (freed (net d q) d)
  shut_inside = subst (λ n. c < n) (sym (freed_long (net d q) d)) (net_inside d c (run_net pad_runs on))

  -- laid again it is as before
  pub relaid_whole : laid (net d q) (shut_in d q c) ≡ d
  relaid_whole = ext_get_or Free (laid (net d q) (shut_in d q c)) d (laid_long None (net d q) (shut_in d q c) ∙ shut_long) (λ k _. go k (dec_mem k (net d q)))
    where
      go : (k : ℕ) → Dec (Mem k (net d q)) → record_at (laid (net d q) (shut_in d q c)) k ≡ record_at d k
      go k (yes i) = relaid m d W.local (shut_in d q c) None pad_runs (none_before (record_at d q) p)
          (λ v j. subst (λ n. v < n) (sym shut_long) (net_inside d v (run_net pad_runs j))) i
      go k (no n) = laid_outside None (net d q) (shut_in d q c) k n ∙
          (get_or-set_other (freed (net d q) d) c k Barred Free (λ e. n (mem_at e on)) ∙ freed_outside (net d q) d k n)

  up_lawful : Lawful m (freed (net d q) d)
  up_lawful = lift_lawful m d (freed (net d q) d) q W p (frees (net d q) d (freed (net d q) d) refl)

  up_free : record_at (freed (net d q) d) c ≡ Free
  up_free = freed_inside (net d q) d c on

  pub shut_lawful : Lawful m (shut_in d q c)
  shut_lawful = bar_lawful m (freed (net d q) d) c up_lawful up_free shut_inside

  shut_wired : wired (shut_in d q c) ≡ without q (wired d)
  shut_wired = bar_wired m (freed (net d q) d) c up_lawful up_free shut_inside ∙
      lift_wired m d (freed (net d q) d) q W p (frees (net d q) d (freed (net d q) d) refl)

  -- the pads to be met are the wired pads
  pub shut_pads : Same (q ∷ wired (shut_in d q c)) (wired d)
  shut_pads = (
    λ k i. ⊎_elim
        (λ (e : k ≡ q). mem_at e (below_kept (first_at d) (length d) q (net_inside d q (first_net (record_at d q) p)) p))
        (λ j. (mem_of_kept (λ x. not (eqb x q)) k (wired d) (subst (Mem k) shut_wired j)).0)
        (mem_cases i),
    λ k i. ⊎_elim
        (λ (e : k ≡ q). here e)
        (λ ne. there (subst (Mem k) (sym shut_wired) (mem_kept (λ x. not (eqb x q)) i (ap not (ne_eqb k q ne)))))
        (cases_eq k q),
  )

  pub shut_bars : Same (bars (shut_in d q c)) (c ∷ bars d)
  shut_bars =
      let h = bar_bars m (freed (net d q) d) c up_lawful up_free shut_inside in
      let e = lift_bars m d (freed (net d q) d) q W p (frees (net d q) d (freed (net d q) d) refl) in
      subst (λ xs. Same (bars (shut_in d q c)) (c ∷ xs)) e h

  module _ (off : first_at d c ≡ false) where
    q_away : q ≡ c → ⊥
    q_away e = both_ways (first_at d c) off (ap (first_at d) (sym e) ∙ p)

    q_free : record_at (shut_in d q c) q ≡ Free
    q_free = get_or-set_other (freed (net d q) d) c q Barred Free q_away ∙ freed_inside (net d q) d q (run_first pad_runs)

    pub q_unwired : first_at (shut_in d q c) q ≡ false
    q_unwired = ap is_first q_free

    pub q_unbarred : barred_at (shut_in d q c) q ≡ false
    q_unbarred = ap is_barred q_free

  pub barred_also : (e : List Record) (z : ℕ) → WiredAlso m (shut_in d q c) e q z → BarredAlso m d e c
  barred_also e z w =
      let R = w.rewired in
      let same = subst (λ xs. Same xs (c ∷ bars d)) (sym R.same_bars) shut_bars in
      record {
        lawful = R.lawful;
        same_wired = (λ k i. shut_pads.0 k (R.one_more.0 k i), λ k i. R.one_more.1 k (shut_pads.1 k i));
        one_more = same;
      }

  pub fence_barred : (report report' : List ℕ) (a x : ℕ) → FenceShown m (bars (shut_in d q c)) (q ∷ wired (shut_in d q c)) report report' a x →
      FenceShown m (c ∷ bars d) (wired d) report report' a x
  fence_barred report report' a x s =
      let same : (ys : List ℕ) → Same ys ys = λ ys. (λ k i. i, λ k i. i) in
      record {
        shown_pads = s.shown_pads;
        shown_cells = s.shown_cells;
        pads_counted = s.pads_counted;
        cells_counted = s.cells_counted;
        fence = fence_by_members m (bars (shut_in d q c)) (c ∷ bars d) (q ∷ wired (shut_in d q c)) (wired d) s.shown_pads s.shown_pads s.shown_cells s.shown_cells
            shut_bars shut_pads (same s.shown_pads) (same s.shown_cells) s.fence.pads_differ s.fence.cells_differ s.fence;
        left_out = s.left_out;
        others = s.others;
        others_met = linkage_for_less m (bars (shut_in d q c)) (c ∷ bars d) s.others s.others (λ k i. i) shut_bars.1 s.others_met;
        no_more = λ k i. s.no_more k (shut_pads.1 k i);
        pads_rise = s.pads_rise;
        cells_rise = s.cells_rise;
        writes = s.writes;
      }

-- ---- the wired pads of a drawing with one bar more can be met with that bar

pub met_barred : (m : Meaning) (d e : List Record) (c : ℕ) → BarredAlso m d e c → CanBeMet m (c ∷ bars d) (wired d)
met_barred m d e c b =
    linkage_for_less m (bars e) (c ∷ bars d) (wired e) (wired d) b.same_wired.1 b.one_more.1 (linked m e b.lawful).linkage

pub as_free : (r : Record) (m : Meaning) (d e : List Record) (work work' : List ℕ) (c : ℕ) → is_net r ≡ false → is_barred r ≡ false → e ≡ set d c Barred → work' ≡ work →
    BarredAs r m d e work work' c 0
as_free Free m d e work work' c n b f g = (refl, f, g)
as_free Barred m d e work work' c n b f g = absurd (false≢true (sym b))
as_free (Net x y) m d e work work' c n b f g = absurd (false≢true (sym n))

pub as_net : (r : Record) (m : Meaning) (d e : List Record) (work work' : List ℕ) (c : ℕ) → is_net r ≡ true → Zeroed m work work' → BarredAs r m d e work work' c 1
as_net Free m d e work work' c n z = absurd (false≢true n)
as_net Barred m d e work work' c n z = absurd (false≢true n)
as_net (Net x y) m d e work work' c n z = (refl, z)

pub free_is : (r : Record) → is_net r ≡ false → is_barred r ≡ false → r ≡ Free
free_is Free n b = refl
free_is Barred n b = absurd (false≢true (sym b))
free_is (Net x y) n b = absurd (false≢true (sym n))
