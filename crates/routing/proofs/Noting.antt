-- What a search notes stays true as it enters one cell more.
use Rattle.std.proofs.Common.{◌≡◌, ℕ, ◌+◌, ◌<◌, ◌≤◌, true, false, ◌||◌, eqb, List, ◌∷◌, length, get_or, take, set, replicate, sym, refl, ap, ◌∙◌, subst, ⊎_elim, arith, below_more}
use Rattle.std.proofs.lemmas.List.{get_or_past, get_or-replicate, length-replicate, get_or-set_same, get_or-set_other, length-set, get_or-take, length-take-le}
use Rattle.std.proofs.lemmas.Bool.{both_ways, cases_lt, cases_eq, cases_Bool, eqb-true, eq-eqb, or_parts, or_from, cond_both, cond-false}
use Rattle.boards.specs.Meaning.{Meaning}
use Rattle.linkages.specs.Lists.{Mem, Distinct}
use Rattle.linkages.proofs.Members.{mem_cases}
use Rattle.linkages.proofs.Places.{has_from_mem, distinct_from}
use Rattle.records.specs.declared.record.Record.{Record}
use Rattle.drawings.specs.Nets.{barred_at}
use Rattle.drawings.proofs.Cells.{length_below}
use Rattle.rewiring.specs.Trails.{Enters}
use Rattle.routing.specs.Searches.{Notes, notes, was_entered, cell_at, from_at, open_at, entered_also, visited, Searching, NoneOpen, Closed}

-- ---- marks

pub zero_at : (n c : ℕ) → ◌≡◌ {A = ℕ} (get_or (replicate n 0) c 0) 0
zero_at n c = ⊎_elim
    (λ h. get_or-replicate n c 0 0 h)
    (λ h. get_or_past (replicate n 0) c 0 (omega (arith, length-replicate {A = ℕ} n 0)))
    (cases_lt c n)

pub entered_inside : (xs : List ℕ) (c : ℕ) → was_entered xs c ≡ true → c < length xs
entered_inside xs c e = ⊎_elim
    (λ h. h)
    (λ h. let z : ◌≡◌ {A = ℕ} 0 1 = sym (get_or_past xs c 0 h) ∙ eqb-true (get_or xs c 0) 1 e in let w : ⊥ = omega arith in absurd w)
    (cases_lt c (length xs))

pub marked_here : (xs : List ℕ) (c : ℕ) → c < length xs → was_entered (set xs c 1) c ≡ true
marked_here xs c h = eq-eqb (get_or (set xs c 1) c 0) 1 (get_or-set_same xs c 1 0 h)

pub marked_other : (xs : List ℕ) (c k : ℕ) → (k ≡ c → ⊥) → was_entered (set xs c 1) k ≡ was_entered xs k
marked_other xs c k ne = ap (λ v. eqb v 1) (get_or-set_other xs c k 1 0 ne)

pub marked_still : (xs : List ℕ) (c k : ℕ) → was_entered xs k ≡ true → was_entered (set xs c 1) k ≡ true
marked_still xs c k e = ⊎_elim
    (λ (f : k ≡ c). ap (was_entered (set xs c 1)) f ∙ marked_here xs c (subst (λ v. v < length xs) f (entered_inside xs k e)))
    (λ ne. marked_other xs c k ne ∙ e)
    (cases_eq k c)

-- what holds at each place below n of a list, and of x, holds at each place below n + 1 with x written at n
below_set : (P : ℕ → ℕ → Type 0) (xs : List ℕ) (n x : ℕ) → n < length xs → ((k : ℕ) → k < n → P k (get_or xs k 0)) → P n x →
    (k : ℕ) → k < n + 1 → P k (get_or (set xs n x) k 0)
below_set P xs n x h all last = below_more _ _
    (λ k l. subst (P k) (sym (get_or-set_other xs n k x 0 (omega arith))) (all k l))
    (subst (P n) (sym (get_or-set_same xs n x 0 h)) last)

module _ (m : Meaning) (d : List Record) (p : ℕ) (s : Notes) (S : Searching m d p s) where
  pub cell_inside : (k : ℕ) → k < s.count → cell_at s k < length d
  cell_inside k h = subst (λ n. cell_at s k < n) S.entered_long (entered_inside s.entered (cell_at s k) (S.queued k h))

  -- there is room for one more as long as one was not entered
  pub room : (c : ℕ) → c < length d → was_entered s.entered c ≡ false → s.count < length d
  room c l e =
      let xs = take s.count s.queue in
      let long : length xs ≡ s.count = length-take-le s.count s.queue (omega (arith, S.fits, S.queue_long)) in
      let at : (k : ℕ) → k < s.count → get_or xs k 0 ≡ cell_at s k = λ k h. get_or-take s.count s.queue k 0 h in
      let away : Mem c xs → ⊥ = λ i.
      let h = has_from_mem xs c i in
      let j : h.0 < s.count = omega (arith, h.1) in
      both_ways (was_entered s.entered c) e
      (subst (λ v. was_entered s.entered v ≡ true) (sym (at h.0 j) ∙ h.2 0) (S.queued h.0 j)) in
      let apart : Distinct xs = distinct_from xs (λ i j l k f.
      S.differ i j l (omega arith) (sym (at i (omega arith)) ∙ f ∙ at j (omega arith))) in
      let below : (v : ℕ) → Mem v (c ∷ xs) → v < length d = λ v i. ⊎_elim
      (λ (f : v ≡ c). subst (λ w. w < length d) (sym f) l)
      (λ k. let h = has_from_mem xs v k in
      let j : h.0 < s.count = omega (arith, h.1) in
      subst (λ w. w < length d) (sym (at h.0 j) ∙ h.2 0) (cell_inside h.0 j))
      (mem_cases i) in
      let all = length_below (length d) (c ∷ xs) (away, apart) below in
      omega arith

  -- one cell more
  pub also_searching : (k c : ℕ) → c < length d → was_entered s.entered c ≡ false → barred_at d c ≡ false → k < s.count →
      Enters m d (cell_at s k) c → Searching m d p (entered_also s k c)
  also_searching k c l new free i e =
      let n = s.count in
      let fit : n < length d = room c l new in
      let q : n < length s.queue = omega (arith, S.queue_long) in
      let f : n < length s.from = omega (arith, S.from_long) in
      let r : c < length s.entered = omega (arith, S.entered_long) in
      let kept : (j : ℕ) → j < n → cell_at (entered_also s k c) j ≡ cell_at s j = λ j h. get_or-set_other s.queue n j c 0 (omega arith) in
      let last : cell_at (entered_also s k c) n ≡ c = get_or-set_same s.queue n c 0 q in
      record {
        entered_long = length-set s.entered c 1 ∙ S.entered_long;
        queue_long = length-set s.queue n c ∙ S.queue_long;
        from_long = length-set s.from n k ∙ S.from_long;
        some = omega arith;
        fits = omega arith;
        starts = kept 0 S.some ∙ S.starts;
        queued = below_set (λ _ v. was_entered (set s.entered c 1) v ≡ true) s.queue n c q
            (λ j h. marked_still s.entered c (cell_at s j) (S.queued j h)) (marked_here s.entered c r);
        listed = λ v h. ⊎_elim
            (λ (g : v ≡ c). (n, omega arith, last ∙ sym g))
            (λ ne. let w = S.listed v (sym (marked_other s.entered c v ne) ∙ h) in
            (w.0, omega (arith, w.1), kept w.0 w.1 ∙ w.2))
            (cases_eq v c);
        differ = λ a b h j g. ⊎_elim
            (λ (x : b < n). S.differ a b h x (sym (kept a (omega arith)) ∙ g ∙ kept b x))
            (λ (x : n ≤ b). let y : b ≡ n = omega arith in
            let z : cell_at s a ≡ c = sym (kept a (omega arith)) ∙ g ∙ ap (cell_at (entered_also s k c)) y ∙ last in
            both_ways (was_entered s.entered c) new (subst (λ v. was_entered s.entered v ≡ true) z (S.queued a (omega arith))))
            (cases_lt b n);
        unbarred = below_set (λ _ v. barred_at d v ≡ false) s.queue n c q S.unbarred free;
        earlier = λ j pos h. below_set (λ j v. 0 < j → v < j) s.from n k f (λ j l t. S.earlier j t l) (λ _. i) j h pos;
        enters = λ j pos h. ⊎_elim
            (λ (x : j < n).
            let a : from_at (entered_also s k c) j ≡ from_at s j = get_or-set_other s.from n j k 0 (omega arith) in
            let b = ap (cell_at (entered_also s k c)) a ∙ kept (from_at s j) (omega (arith, S.earlier j pos x)) in
            subst (λ v. Enters m d v (cell_at (entered_also s k c) j)) (sym b) (subst (Enters m d (cell_at s (from_at s j))) (sym (kept j x)) (S.enters j pos x)))
            (λ (x : n ≤ j). let y : n ≡ j = omega arith in
            let a : from_at (entered_also s k c) n ≡ k = get_or-set_same s.from n k 0 f in
            let b = ap (cell_at (entered_also s k c)) a ∙ kept k i in
            let all : Enters m d (cell_at (entered_also s k c) (from_at (entered_also s k c) n)) (cell_at (entered_also s k c) n) =
            subst (λ v. Enters m d v (cell_at (entered_also s k c) n)) (sym b) (subst (Enters m d (cell_at s k)) (sym last) e) in
            subst (λ v. Enters m d (cell_at (entered_also s k c) (from_at (entered_also s k c) v)) (cell_at (entered_also s k c) v)) y all)
            (cases_lt j n);
      }

  -- a visit: by cases, as the cell is entered or not
  pub visit_cases : (P : Notes → Type 0) (k c : ℕ) → P s → (barred_at d c ≡ false → was_entered s.entered c ≡ false → P (entered_also s k c)) →
      P (visited d s k c)
  visit_cases P k c stays goes = cond_both (barred_at d c || was_entered s.entered c) s (entered_also s k c) P (λ _. stays)
      (λ e. let h = or_parts (barred_at d c) (was_entered s.entered c) e in goes h.0 h.1)

  pub visit_searching : (k c : ℕ) → c < length d → k < s.count → (barred_at d c ≡ false → Enters m d (cell_at s k) c) →
      Searching m d p (visited d s k c)
  visit_searching k c l i e = visit_cases (Searching m d p) k c S (λ free new. also_searching k c l new free i (e free))

  -- what was entered stays so, and the queue stays as far as it went
  pub visit_keeps : (k c t : ℕ) → was_entered s.entered t ≡ true → was_entered (visited d s k c).entered t ≡ true
  visit_keeps k c t h = visit_cases (λ s'. was_entered s'.entered t ≡ true) k c h (λ _ _. marked_still s.entered c t h)

  pub visit_count : (k c : ℕ) → s.count ≤ (visited d s k c).count
  visit_count k c = visit_cases (λ s'. s.count ≤ s'.count) k c (omega arith) (λ _ _. omega arith)

  pub visit_cell : (k c i : ℕ) → i < s.count → cell_at (visited d s k c) i ≡ cell_at s i
  visit_cell k c i h = visit_cases (λ s'. cell_at s' i ≡ cell_at s i) k c refl (λ _ _. get_or-set_other s.queue s.count i c 0 (omega arith))

  -- the visit of a new cell enters it
  pub visit_new : (k c : ℕ) → barred_at d c ≡ false → was_entered s.entered c ≡ false → visited d s k c ≡ entered_also s k c
  visit_new k c free new = cond-false (barred_at d c || was_entered s.entered c) s (entered_also s k c)
      (or_from (barred_at d c) (was_entered s.entered c) free new)

  -- an unbarred cell was entered after its visit
  pub visit_enters : (k c : ℕ) → c < length d → barred_at d c ≡ false → was_entered (visited d s k c).entered c ≡ true
  visit_enters k c l free = ⊎_elim
      (λ h. visit_keeps k c c h)
      (λ h. ap (λ t. was_entered t.entered c) (visit_new k c free h) ∙ marked_here s.entered c (omega (arith, S.entered_long)))
      (cases_Bool (was_entered s.entered c))

  -- the visit of a cell that is no open landing finds none
  pub visit_none_open : (k c : ℕ) → c < length d → NoneOpen m d s s.count → open_at m d c ≡ false →
      NoneOpen m d (visited d s k c) (visited d s k c).count
  visit_none_open k c l none e = visit_cases (λ t. NoneOpen m d t t.count) k c none (λ free new.
      let q : s.count < length s.queue = omega (arith, S.queue_long, room c l new) in
      below_set (λ _ v. open_at m d v ≡ false) s.queue s.count c q none e)

  pub visit_closed : (k c i : ℕ) → i ≤ s.count → Closed m d s i → Closed m d (visited d s k c) i
  visit_closed k c i h shut j l t e =
      visit_keeps k c t (shut j l t (subst (λ v. Enters m d v t) (visit_cell k c j (omega arith)) e))

  -- an open landing was not entered yet
  pub open_is_new : (c : ℕ) → NoneOpen m d s s.count → open_at m d c ≡ true → was_entered s.entered c ≡ false
  open_is_new c none o = ⊎_elim
      (λ h. let w = S.listed c h in absurd (both_ways (open_at m d c) (ap (open_at m d) (sym w.2) ∙ none w.0 w.1) o))
      (λ h. h)
      (cases_Bool (was_entered s.entered c))

-- the first cell
pub begin_searching : (m : Meaning) (d : List Record) (p : ℕ) (E Q F : List ℕ) → length E ≡ length d → length Q ≡ length d → length F ≡ length d →
    ((c : ℕ) → get_or E c 0 ≡ 0) → p < length d → barred_at d p ≡ false → Searching m d p (entered_also (notes E Q F 0) 0 p)
begin_searching m d p E Q F le lq lf none l free =
    let first : get_or (set Q 0 p) 0 0 ≡ p = get_or-set_same Q 0 p 0 (omega arith) in
    let one : (k : ℕ) → k < 0 + 1 → 0 ≡ k = λ k h. omega arith in
    let no : (c : ℕ) → was_entered E c ≡ true → ⊥ = λ c e.
    let z : ◌≡◌ {A = ℕ} 0 1 = sym (none c) ∙ eqb-true (get_or E c 0) 1 e in omega arith in
    record {
      entered_long = length-set E p 1 ∙ le;
      queue_long = length-set Q 0 p ∙ lq;
      from_long = length-set F 0 0 ∙ lf;
      some = omega arith;
      fits = omega arith;
      starts = first;
      queued = λ k h. subst (λ v. was_entered (set E p 1) (get_or (set Q 0 p) v 0) ≡ true) (one k h)
          (ap (was_entered (set E p 1)) first ∙ marked_here E p (omega arith));
      listed = λ c h. ⊎_elim
          (λ (g : c ≡ p). (0, omega arith, first ∙ sym g))
          (λ ne. absurd (no c (sym (marked_other E p c ne) ∙ h)))
          (cases_eq c p);
      differ = λ i j a b e. omega arith;
      unbarred = λ k h. subst (λ v. barred_at d (get_or (set Q 0 p) v 0) ≡ false) (one k h) (ap (barred_at d) first ∙ free);
      earlier = λ k a b. omega arith;
      enters = λ k a b. let z : ⊥ = omega arith in absurd z;
    }
