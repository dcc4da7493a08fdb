-- Every linkage has a lawful drawing.
use Rattle.std.proofs.Common.{◌≡◌, ℕ, ◌<◌, Bool, true, false, ◌⊎◌, List, [], map, length, Some, None, filter, sym, refl, ap, ◌∙◌, subst, inl, inr}
use Rattle.std.specs.List.{range_with_len}
use Rattle.std.proofs.lemmas.List.FromFn.{length-map-range_with_len}
use Rattle.std.proofs.lemmas.Bool.{both_ways, false≢true}
use Rattle.boards.specs.Meaning.{Meaning, Bounded, pad_at, landing_at, outlets_of}
use Rattle.boards.specs.Meanings.{made_in}
use Rattle.linkages.specs.Lists.{Mem, here, there, Distinct, Disjoint, Next, begins, goes_on}
use Rattle.linkages.specs.Paths.{Landing, Unbarred, Walk, stop, step, Path, Linkage, LandsOnce, upto_landing}
use Rattle.linkages.specs.Nets.{OffNets}
use Rattle.linkages.proofs.Members.{mem_none, mem_at, mem_map, mem_of_map, dec_mem, held_or_not}
use Rattle.linkages.proofs.Pigeons.{disjoint_paths}
use Rattle.linkages.proofs.Walks.{walk_unbarred, upto_landing_front, front_within, truncated}
use Rattle.linkages.proofs.OnBoard.{paths_stay_on_board}
use Rattle.records.specs.declared.record.Record.{Record}
use Rattle.records.specs.declared.record.Record.TheVariants.{Free, Barred, Net}
use Rattle.records.specs.Records.{before_of, after_of, is_net, is_first, is_last, is_barred, record_at}
use Rattle.drawings.specs.Nets.{after_at, net_at, first_at, barred_at, wired, bars, net, Runs}
use Rattle.drawings.specs.Lawful.{Local, Lawful}
use Rattle.drawings.proofs.Cells.{kept_below, below_kept, distinct_kept_below}
use Rattle.drawings.proofs.Said.{some_same, before_net, after_net, first_net, net_inside}
use Rattle.drawings.proofs.Locals.{local_everywhere}
use Rattle.drawings.proofs.Follow.{run_net, net_run, net_reached}
use Rattle.drawings.proofs.Linking.{run_begins, next_after, after_next}
use Rattle.layouts.specs.Theorems.{Lays, LinkagesDraw}
use Rattle.layouts.proofs.Laying.{Lies, lies_runs, lies_begins, lies_before, first_or_next, laid_all, laid_all_length, laid_all_outside, laid_all_lie, local_off}

-- a barred cell is on no net
barred_off : (r : Record) → is_barred r ≡ true → is_net r ≡ false
barred_off Free e = refl
barred_off Barred e = refl
barred_off (Net b a) e = absurd (false≢true e)

walk_next : {m : Meaning} {bars : List ℕ} {z a u t : ℕ} {xs : List ℕ} → Walk m bars z a xs → Next u t xs → Mem t (outlets_of m u)
walk_next (stop f e) (goes_on n) = elim n [ ]
walk_next {m} {t = t} (step f o (stop g e)) (begins p q) = subst (λ x. Mem t (outlets_of m x)) (sym p) (mem_at q o)
walk_next {m} {t = t} (step f o (step g h w)) (begins p q) = subst (λ x. Mem t (outlets_of m x)) (sym p) (mem_at q o)
walk_next (step f o w) (goes_on n) = walk_next w n

walk_end : {m : Meaning} {bars : List ℕ} {z a c : ℕ} {xs : List ℕ} → Walk m bars z a xs → Mem c xs → (c ≡ z) ⊎ ((t : ℕ) × Next c t xs)
walk_end (stop f e) (here g) = inl (g ∙ e)
walk_end (stop f e) (there k) = absurd (mem_none k)
walk_end (step f o (stop g e)) (here h) = inr (_, begins h refl)
walk_end (step f o (step g e w)) (here h) = inr (_, begins h refl)
walk_end (step f o w) (there k) = elim (walk_end w k) [ inl e ↦ inl e | inr n ↦ inr (n.0, goes_on n.1) ]

-- the list of a walk, with what lies there
walk_lies : {m : Meaning} {bars : List ℕ} {z a : ℕ} {xs : List ℕ} {d : List Record} → Walk m bars z a xs → Lies d None xs → Runs d a xs × (first_at d a ≡ true)
walk_lies (stop {a = a} f e) l = (lies_runs a [] l, lies_begins l)
walk_lies (step {a = a} {xs = xs} f o w) l = (lies_runs a xs l, lies_begins l)

first_alone : (r : Record) (s : ℕ) → is_first r ≡ true → before_of r ≡ Some s → ⊥
first_alone r s p e = both_ways (is_first r) (before_net r s e).1 p

last_alone : (r : Record) (t : ℕ) → is_last r ≡ true → after_of r ≡ Some t → ⊥
last_alone r t p e = both_ways (is_last r) (after_net r t e).1 p

-- a net cell is the last or names one after it
last_or_on : (r : Record) → is_net r ≡ true → (is_last r ≡ true) ⊎ ((t : ℕ) × (after_of r ≡ Some t))
last_or_on Free e = absurd (false≢true e)
last_or_on Barred e = absurd (false≢true e)
last_or_on (Net b None) e = inl refl
last_or_on (Net b (Some t)) e = inr (t, refl)

bar_or_free : {P : Type 0} → Dec P → Record
bar_or_free (yes h) = Barred
bar_or_free (no n) = Free

bar_off : {P : Type 0} (x : Dec P) → is_net (bar_or_free x) ≡ false
unfolding bar_or_free
bar_off (yes h) = refl
bar_off (no n) = refl

bar_is : {P : Type 0} (x : Dec P) → is_barred (bar_or_free x) ≡ true → P
unfolding bar_or_free
bar_is (yes h) e = h
bar_is (no n) e = absurd (false≢true e)

is_bar : {P : Type 0} (x : Dec P) → P → is_barred (bar_or_free x) ≡ true
unfolding bar_or_free
is_bar (yes h) p = refl
is_bar (no n) p = absurd (n p)

said : {P : Type 0} → Dec P → Bool
said (yes h) = true
said (no n) = false

said_is : {P : Type 0} (x : Dec P) → said x ≡ true → P
unfolding said
said_is (yes h) e = h
said_is (no n) e = absurd (false≢true e)

say : {P : Type 0} (x : Dec P) → P → said x ≡ true
unfolding said
say (yes h) p = refl
say (no n) p = absurd (n p)

module _ (m : Meaning) (barred pads : List ℕ) (B : Bounded m) (inside : (c : ℕ) → Mem c barred → c < m.cells)
    (are_pads : (c : ℕ) → Mem c pads → pad_at m c ≡ true) (L : Linkage m barred pads) where
  course : ℕ → List ℕ
  course q = upto_landing m (L.path q)

  base : List Record
  base = map (λ c. bar_or_free (dec_mem c barred)) (range_with_len 0 m.cells)

  base_length : length base ≡ m.cells
  unfolding base
  base_length = length-map-range_with_len (λ c. bar_or_free (dec_mem c barred)) 0 m.cells

  base_at : (c : ℕ) → c < m.cells → record_at base c ≡ bar_or_free (dec_mem c barred)
  unfolding base
  base_at c h = made_in (λ c. bar_or_free (dec_mem c barred)) m.cells Free c h

  -- a pad's course
  record Good (q : ℕ) : Type 0 where
    end : ℕ
    lands : Landing m end
    path : Path m barred q end (course q)
    once : LandsOnce m (course q)

  good : (q : ℕ) → Mem q pads → Good q
  unfolding course
  good q k =
      let t = truncated m barred q (L.end q) (L.path q) (L.runs q k) (L.lands q k) in
      record { end = t.2.0; lands = t.2.1; path = t.2.2; once = t.1 }

  -- the pads, each once
  roll : List ℕ
  roll = filter (λ c. said (dec_mem c pads)) (range_with_len 0 m.cells)

  pad_cell : (q : ℕ) → Mem q pads → q < m.cells
  pad_cell q i = paths_stay_on_board.pads_are_cells m q B (are_pads q i)

  to_roll : (q : ℕ) → Mem q pads → Mem q roll
  unfolding roll
  to_roll q i = below_kept (λ c. said (dec_mem c pads)) m.cells q (pad_cell q i) (say (dec_mem q pads) i)

  of_roll : (q : ℕ) → Mem q roll → Mem q pads
  unfolding roll
  of_roll q i = said_is (dec_mem q pads) (kept_below (λ c. said (dec_mem c pads)) m.cells q i).1

  roll_distinct : Distinct roll
  unfolding roll
  roll_distinct = distinct_kept_below (λ c. said (dec_mem c pads)) m.cells

  nets : List (List ℕ)
  nets = map course roll

  -- each net is the course of a pad
  pad_of : (xs : List ℕ) → Mem xs nets → (q : ℕ) × Mem q pads × (xs ≡ course q)
  unfolding nets
  pad_of xs i = let h = mem_of_map course xs roll i in (h.0, of_roll h.0 h.1, h.2)

  pad_net : (q : ℕ) → Mem q pads → Mem (course q) nets
  unfolding nets
  pad_net q i = mem_map course (to_roll q i)

  on_path : (q c : ℕ) → Mem c (course q) → Mem c (L.path q)
  unfolding course
  on_path q c = front_within (upto_landing m (L.path q)) (L.path q) (upto_landing_front m (L.path q)) c

  nets_disjoint : Disjoint nets
  unfolding nets
  nets_disjoint = disjoint_paths roll course roll_distinct (λ q r c i j k l. L.apart q r c (of_roll q i) (of_roll r j) (on_path q c k) (on_path r c l))

  course_cells : (q c : ℕ) → Mem q pads → Mem c (course q) → c < m.cells
  course_cells q c i k = paths_stay_on_board.paths_hold_cells m barred q (good q i).end c (course q) B (pad_cell q i) (good q i).path k

  d : List Record
  d = laid_all nets base

  d_length : length d ≡ m.cells
  unfolding d
  d_length = laid_all_length nets base ∙ base_length

  d_lies : (xs : List ℕ) → Mem xs nets → Lies d None xs
  unfolding d
  d_lies = laid_all_lie nets base nets_disjoint
      (λ xs i. let h = pad_of xs i in subst Distinct (sym h.2) (good h.0 h.1).path.distinct)
      (λ xs k i j. let h = pad_of xs i in subst (λ n. k < n) (sym base_length) (course_cells h.0 k h.1 (subst (Mem k) h.2 j)))

  d_off : (c : ℕ) → OffNets nets c → c < m.cells → record_at d c ≡ bar_or_free (dec_mem c barred)
  unfolding d
  d_off c n h = laid_all_outside nets base c n ∙ base_at c h

  -- a pad's course lies there
  d_run : (q : ℕ) → Mem q pads → Runs d q (course q) × (first_at d q ≡ true)
  d_run q i = walk_lies (good q i).path.walk (d_lies (course q) (pad_net q i))

  -- the local rules on a pad's course
  on_course : (q c : ℕ) → Mem q pads → Mem c (course q) → Local m d c
  on_course q c i k =
      let g = good q i in
      let lies = d_lies (course q) (pad_net q i) in
      let run = (d_run q i).0 in
      record {
        first_is_pad = λ p. elim (first_or_next k) [
          | inl e ↦ ap (pad_at m) (e ∙ run_begins run) ∙ are_pads q i
          | inr n ↦ absurd (first_alone (record_at d c) n.0 p (lies_before lies n.1))
        ];
        last_is_landing = λ p. elim (walk_end g.path.walk k) [
          | inl e ↦ ap (landing_at m) e ∙ g.lands
          | inr n ↦ absurd (last_alone (record_at d c) n.0 p (next_after run n.1))
        ];
        landing_is_last = λ p l. elim (last_or_on (record_at d c) p) [
          | inl e ↦ e
          | inr n ↦ absurd (g.once c n.0 (after_next run k n.1) l)
        ];
        after_is_outlet = λ t e. walk_next g.path.walk (after_next run k e);
        after_names_back = λ t e. lies_before lies (after_next run k e);
        before_names_on = λ s e. elim (first_or_next k) [
          | inl f ↦ absurd (first_alone (record_at d c) s (ap (first_at d) (f ∙ run_begins run) ∙ (d_run q i).1) e)
          | inr n ↦ subst (λ u. after_at d u ≡ Some c) (some_same (lies_before lies n.1) e) (next_after run n.1)
        ];
      }

  -- and off the nets
  off_course : (c : ℕ) → OffNets nets c → c < m.cells → Local m d c
  off_course c n h = local_off m d c (bar_or_free (dec_mem c barred)) (d_off c n h) (bar_off (dec_mem c barred))

  d_cell : (c : ℕ) → c < length d → c < m.cells
  d_cell c h = subst (λ n. c < n) d_length h

  d_local : (c : ℕ) → Local m d c
  d_local = local_everywhere m d (λ c h. elim (held_or_not nets c) [
    | inl t ↦ (let p = pad_of t.0 t.1 in on_course p.0 c p.1 (subst (Mem c) p.2 t.2))
    | inr n ↦ off_course c n (d_cell c h)
  ])

  d_net : (q : ℕ) → Mem q pads → net d q ≡ course q
  d_net q i = net_run (d_run q i).0

  -- a net cell is on a pad's course
  net_on : (c : ℕ) → net_at d c ≡ true → (q : ℕ) × Mem q pads × Mem c (course q)
  net_on c h = elim (held_or_not nets c) [
    | inl t ↦ (let p = pad_of t.0 t.1 in (p.0, p.1, subst (Mem c) p.2 t.2))
    | inr n ↦ absurd (both_ways (net_at d c) (ap is_net (d_off c n (d_cell c (net_inside d c h))) ∙ bar_off (dec_mem c barred)) h)
  ]

  d_lawful : Lawful m d
  d_lawful = record {
    one_each = d_length;
    local = d_local;
    reached = λ c h. let t = net_on c h in net_reached m d d_local t.0 c (d_run t.0 t.1).1 (subst (Mem c) (sym (d_net t.0 t.1)) t.2);
  }

  -- the wired pads
  wired_pad : (c : ℕ) → Mem c (wired d) → Mem c pads
  wired_pad c i =
      let p = (kept_below (first_at d) (length d) c i).1 in
      let t = net_on c (first_net (record_at d c) p) in
      elim (first_or_next t.2) [
        | inl e ↦ mem_at (e ∙ run_begins (d_run t.0 t.1).0) t.1
        | inr n ↦ absurd (first_alone (record_at d c) n.0 p (lies_before (d_lies (course t.0) (pad_net t.0 t.1)) n.1))
      ]

  pad_wired : (c : ℕ) → Mem c pads → Mem c (wired d)
  pad_wired c i = below_kept (first_at d) (length d) c (subst (λ n. c < n) (sym d_length) (pad_cell c i)) (d_run c i).1

  -- the bars
  net_free : (c : ℕ) (q : ℕ) → Mem q pads → Mem c (course q) → Unbarred barred c
  net_free c q i k = walk_unbarred (good q i).path.walk k

  bar_barred : (c : ℕ) → Mem c (bars d) → Mem c barred
  bar_barred c i =
      let p = kept_below (barred_at d) (length d) c i in
      elim (held_or_not nets c) [
        | inl t ↦ (let h = pad_of t.0 t.1 in
            absurd (both_ways (net_at d c) (barred_off (record_at d c) p.1) (run_net (d_run h.0 h.1).0 (subst (Mem c) h.2 t.2))))
        | inr n ↦ bar_is (dec_mem c barred) (sym (ap is_barred (d_off c n (d_cell c p.0))) ∙ p.1)
      ]

  barred_bar : (c : ℕ) → Mem c barred → Mem c (bars d)
  barred_bar c i = elim (held_or_not nets c) [
    | inl t ↦ (let h = pad_of t.0 t.1 in absurd (net_free c h.0 h.1 (subst (Mem c) h.2 t.2) i))
    | inr n ↦ below_kept (barred_at d) (length d) c (subst (λ k. c < k) (sym d_length) (inside c i)) (ap is_barred (d_off c n (inside c i)) ∙ is_bar (dec_mem c barred) i)
  ]

  lays : Lays m barred pads L.path d
  unfolding course
  lays = record {
    lawful = d_lawful;
    same_pads = (wired_pad, pad_wired);
    same_bars = (bar_barred, barred_bar);
    nets = d_net;
  }

pub linkages_draw : LinkagesDraw
linkages_draw m barred pads B inside are_pads L = (d m barred pads B inside are_pads L, lays m barred pads B inside are_pads L)
