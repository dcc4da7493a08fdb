-- A search from its first cell to its end.
use Rattle.std.proofs.Common.{◌≡◌, ℕ, zero, suc, ◌+◌, ◌<◌, ◌≤◌, true, false, List, length, get_or, Some, None, sym, refl, ap, ◌∙◌, subst, ⊎_elim, not-suc-le-zero, arith}
use Rattle.std.proofs.lemmas.List.{get_or-set_same}
use Rattle.std.proofs.lemmas.Bool.{both_ways, cases_lt, cases_eq}
use Rattle.boards.specs.Meaning.{Meaning, Bounded, outlets_of, outlet_at, landing_at}
use Rattle.linkages.specs.Lists.{Mem}
use Rattle.linkages.specs.Nets.{Entered, start, onward, backward, Failed}
use Rattle.linkages.proofs.NetLists.{failed_from_closed}
use Rattle.records.specs.declared.record.Record.{Record}
use Rattle.records.specs.Records.{record_at}
use Rattle.drawings.specs.Nets.{barred_at, bars, nets}
use Rattle.drawings.specs.Lawful.{Lawful}
use Rattle.drawings.proofs.Outlets.{outlet_mem, mem_outlet}
use Rattle.drawings.proofs.Said.{none_not_some, some_same}
use Rattle.rewiring.specs.Trails.{exit_of, Enters, back, onward as goes-onward}
use Rattle.routing.specs.Searches.{Notes, notes, was_entered, cell_at, from_at, open_at, entered_also, visited, Searching, Waiting, Scanning, Came}
use Rattle.routing.proofs.Noting as note
use Rattle.routing.proofs.Exits as exits

module _ (m : Meaning) (B : Bounded m) (d : List Record) (W : Lawful m d) (p : ℕ) where
  -- what can be entered, by the exit and its outlets
  pub enters_cases : (P : ℕ → Type 0) (s u : ℕ) → exit_of (record_at d s) s ≡ Some u → P u →
      ((j t : ℕ) → j < 8 → outlet_at m u j ≡ Some t → barred_at d t ≡ false → P t) → (t : ℕ) → Enters m d s t → P t
  enters_cases P s u e there out t (back f) = subst P (some_same e f) there
  enters_cases P s u e there out t (goes-onward {u = v} f i free) =
      let same = some_same f e in
      let k = mem_outlet (outlets_of m u) t (subst (λ x. Mem t (outlets_of m x)) same i) in
      out k.0 t (omega (arith, k.1, B.few_outlets u)) k.2 free

  pub enters_none : (s t : ℕ) → exit_of (record_at d s) s ≡ None → Enters m d s t → ⊥
  enters_none s t e (back f) = none_not_some (sym e ∙ f)
  enters_none s t e (goes-onward f i free) = none_not_some (sym e ∙ f)

  -- ---- the first cell

  module _ (E Q F : List ℕ) (le : length E ≡ length d) (lq : length Q ≡ length d) (lf : length F ≡ length d)
      (none : (c : ℕ) → get_or E c 0 ≡ 0) (l : p < length d) (free : barred_at d p ≡ false) where
    first_cell : cell_at (entered_also (notes E Q F 0) 0 p) 0 ≡ p
    first_cell = get_or-set_same Q 0 p 0 (omega arith)

    pub begins : open_at m d p ≡ false → Waiting m d p (entered_also (notes E Q F 0) 0 p) 0
    begins shut = record {
      searching = note.begin_searching m d p E Q F le lq lf none l free;
      none_open = λ i h. let z : 0 ≡ i = omega arith in
          subst (λ v. open_at m d (cell_at (entered_also (notes E Q F 0) 0 p) v) ≡ false) z (ap (open_at m d) first_cell ∙ shut);
      closed = λ i h. absurd (not-suc-le-zero h);
      inside = omega arith;
    }

    pub came_at_once : open_at m d p ≡ true → Came m d p (entered_also (notes E Q F 0) 0 p) p
    came_at_once o = record {
      searching = note.begin_searching m d p E Q F le lq lf none l free;
      last = 0;
      count = refl;
      lands = first_cell;
      lies_open = o;
      none_before = λ i h. absurd (not-suc-le-zero h);
    }

  -- ---- the outlets of an exit

  module _ (s : Notes) (k u : ℕ) where
    pub scan_begins : Waiting m d p s k → k < s.count → exit_of (record_at d (cell_at s k)) (cell_at s k) ≡ Some u →
        (u < length d) × Scanning m d p (visited d s k u) k u 0
    scan_begins w i e =
        let S = w.searching in
        let t = cell_at s k in
        let l = exits.exit_inside m d W t u (note.cell_inside m d p s S k i) e in
        let same = note.visit_cell m d p s S k u k i in (
          l,
          record {
            searching = note.visit_searching m d p s S k u l i (λ _. back e);
            none_open = note.visit_none_open m d p s S k u l w.none_open (exits.exit_not_open m d W t u (w.none_open k i) e);
            closed = note.visit_closed m d p s S k u k w.inside w.closed;
            inside = omega (arith, note.visit_count m d p s S k u);
            exit = subst (λ v. exit_of (record_at d v) v ≡ Some u) (sym same) e;
            back = note.visit_enters m d p s S k u l (exits.exit_unbarred m d W t u (S.unbarred k i) e);
            scanned = λ i t h. absurd (not-suc-le-zero h);
          },
        )

    module _ (j : ℕ) (w : Scanning m d p s k u j) where
      pub scan_more : (c : ℕ) → outlet_at m u j ≡ Some c → c < length d → open_at m d c ≡ false → Scanning m d p (visited d s k c) k u (j + 1)
      scan_more c o l shut =
          let S = w.searching in
          record {
            searching = note.visit_searching m d p s S k c l w.inside (λ free. goes-onward w.exit (outlet_mem (outlets_of m u) j c o) free);
            none_open = note.visit_none_open m d p s S k c l w.none_open shut;
            closed = note.visit_closed m d p s S k c k (omega (arith, w.inside)) w.closed;
            inside = omega (arith, w.inside, note.visit_count m d p s S k c);
            exit = subst (λ v. exit_of (record_at d v) v ≡ Some u) (sym (note.visit_cell m d p s S k c k w.inside)) w.exit;
            back = note.visit_keeps m d p s S k c u w.back;
            scanned = λ i t h f free. ⊎_elim
                (λ (x : i < j). note.visit_keeps m d p s S k c t (w.scanned i t x f free))
                (λ (x : j ≤ i). let y : i ≡ j = omega arith in
                let z : c ≡ t = some_same o (sym (ap (outlet_at m u) y) ∙ f) in
                subst (λ v. was_entered (visited d s k c).entered v ≡ true) z
                (note.visit_enters m d p s S k c l (ap (barred_at d) z ∙ free)))
                (cases_lt i j);
          }

      pub scan_past : outlet_at m u j ≡ None → Scanning m d p s k u (j + 1)
      scan_past o = record {
        searching = w.searching;
        none_open = w.none_open;
        closed = w.closed;
        inside = w.inside;
        exit = w.exit;
        back = w.back;
        scanned = λ i t h f free. ⊎_elim
            (λ (x : i < j). w.scanned i t x f free)
            (λ (x : j ≤ i). let y : i ≡ j = omega arith in absurd (none_not_some (sym o ∙ sym (ap (outlet_at m u) y) ∙ f)))
            (cases_lt i j);
      }

      pub scan_came : (c : ℕ) → outlet_at m u j ≡ Some c → c < length d → open_at m d c ≡ true → Came m d p (visited d s k c) c
      scan_came c o l opens =
          let S = w.searching in
          let free = (exits.open_free (record_at d c) (landing_at m c) opens).1 in
          let new = note.open_is_new m d p s S c w.none_open opens in
          let same = note.visit_new m d p s S k c free new in
          let q : s.count < length s.queue = omega (arith, S.queue_long, note.room m d p s S c l new) in
          record {
            searching = note.visit_searching m d p s S k c l w.inside (λ free. goes-onward w.exit (outlet_mem (outlets_of m u) j c o) free);
            last = s.count;
            count = ap (λ t. t.count) same;
            lands = ap (λ t. cell_at t s.count) same ∙ get_or-set_same s.queue s.count c 0 q;
            lies_open = opens;
            none_before = λ i h. ap (open_at m d) (note.visit_cell m d p s S k c i h) ∙ w.none_open i h;
          }

    pub scan_ends : Scanning m d p s k u 8 → Waiting m d p s (k + 1)
    scan_ends w = record {
      searching = w.searching;
      none_open = w.none_open;
      closed = λ i h t e. ⊎_elim
          (λ (x : i < k). w.closed i x t e)
          (λ (x : k ≤ i). let y : i ≡ k = omega arith in
          enters_cases (λ v. was_entered s.entered v ≡ true) (cell_at s k) u w.exit w.back (λ j v l. w.scanned j v l) t
          (subst (λ v. Enters m d (cell_at s v) t) y e))
          (cases_lt i k);
      inside = omega (arith, w.inside);
    }

  pub wait_past : (s : Notes) (k : ℕ) → Waiting m d p s k → k < s.count → exit_of (record_at d (cell_at s k)) (cell_at s k) ≡ None →
      Waiting m d p s (k + 1)
  wait_past s k w i none = record {
    searching = w.searching;
    none_open = w.none_open;
    closed = λ i h t e. ⊎_elim
        (λ (x : i < k). w.closed i x t e)
        (λ (x : k ≤ i). let y : i ≡ k = omega arith in absurd (enters_none (cell_at s k) t none (subst (λ v. Enters m d (cell_at s v) t) y e)))
        (cases_lt i k);
    inside = omega arith;
  }

  -- ---- the end

  -- each cell of the queue is one that a search enters
  entered_below : (s : Notes) → Searching m d p s → (b k : ℕ) → k < b → k < s.count → Entered m (bars d) (nets d) p (cell_at s k)
  entered_below s S zero k h i = absurd (not-suc-le-zero h)
  entered_below s S (suc b) k h i = ⊎_elim
      (λ (z : k ≡ 0). subst (λ v. Entered m (bars d) (nets d) p v) (sym (ap (cell_at s) z ∙ S.starts)) start)
      (λ ne. let pos : 0 < k = omega arith in
      let l = S.earlier k pos i in
      step (cell_at s (from_at s k)) (cell_at s k) (entered_below s S b (from_at s k) (omega arith) (omega arith)) (S.enters k pos i))
      (cases_eq k 0)
    where
      step : (u v : ℕ) → Entered m (bars d) (nets d) p u → Enters m d u v → Entered m (bars d) (nets d) p v
      step u v r (back e) = backward r (exits.exit_by_nets m d W u v e)
      step u v r (goes-onward {u = w} e o free) = onward r (exits.exit_by_nets m d W u w e) (exits.unbarred_from d v free) o

  pub entered_sound : (s : Notes) → Searching m d p s → (c : ℕ) → was_entered s.entered c ≡ true → Entered m (bars d) (nets d) p c
  entered_sound s S c e =
      let h = S.listed c e in
      subst (Entered m (bars d) (nets d) p) h.2 (entered_below s S (suc h.0) h.0 (omega arith) h.1)

  pub wait_ends : (s : Notes) (k : ℕ) → Waiting m d p s k → s.count ≤ k → Failed m (bars d) (nets d) p (was_entered s.entered)
  wait_ends s k w all =
      let S = w.searching in
      let goes : (t v : ℕ) → was_entered s.entered t ≡ true → Enters m d t v → was_entered s.entered v ≡ true = λ t v r e.
      let h = S.listed t r in
      w.closed h.0 (omega (arith, h.1)) v (subst (λ x. Enters m d x v) (sym h.2) e) in
      let clear : (t : ℕ) → was_entered s.entered t ≡ true → barred_at d t ≡ false = λ t r.
      let h = S.listed t r in ap (barred_at d) (sym h.2) ∙ S.unbarred h.0 h.1 in
      failed_from_closed m (bars d) (nets d) p (was_entered s.entered) (entered_sound s S)
      (subst (λ v. was_entered s.entered v ≡ true) S.starts (S.queued 0 S.some))
      (λ t u r e. goes t u r (back (exits.exit_by_record m d W t u (clear t r) e)))
      (λ t u v r e free o. goes t v r (goes-onward (exits.exit_by_record m d W t u (clear t r) e) o (exits.unbarred_at d v free)))
      (λ c r land off. let h = S.listed c r in
      both_ways (open_at m d c) (ap (open_at m d) (sym h.2) ∙ w.none_open h.0 h.1)
      (exits.free_open (record_at d c) (landing_at m c) (exits.net_off m d W c off) (clear c r) land))
