-- A search that finds no way leaves a fence.
use Rattle.std.proofs.Common.{◌≡◌, ℕ, ◌+◌, Bool, true, ◌⊎◌, List, ◌∷◌, length, filter, sym, refl, ap, ◌∙◌, subst, inl, inr, arith}
use lib.ListN.{length-map}
use Rattle.boards.specs.Meaning.{Meaning, outlets_of}
use Rattle.linkages.specs.Lists.{Mem, here, there, Within, Same, Distinct, Meets, Next}
use Rattle.linkages.specs.Paths.{Landing, Unbarred, Walk, stop, step, Path}
use Rattle.linkages.specs.Fences.{Blocks, Fence}
use Rattle.linkages.specs.Nets.{first_of, pads_of, Wiring, OffNets, Exit, off_nets, along, Entered, start, onward, backward, Trapped}
use Rattle.linkages.specs.Nets.{last_in, fence_pads, fence_cells, LastEntered, Shows, TrappedCannotBeMet, SearchFences, ShownFences}
use Rattle.linkages.specs.Nets.{TheFence}
use Rattle.linkages.proofs.Members.{mem_cases, mem_at, dec_meets, held_or_not, without, mem_of_without, mem_kept, mem_of_kept}
use Rattle.linkages.proofs.Members.{distinct_kept, disjoint_kept, length_kept_map, mem_map, mem_of_map, distinct_picks}
use Rattle.linkages.proofs.Walks.{walk_first, walk_unbarred, before, before_within, before_not_from, from, from_within, walk_from}
use Rattle.linkages.proofs.Walks.{loopless, graft}
use Rattle.linkages.proofs.OneFence.{holds_p, linked, on_path, one_on_path, no_linkage, one_fence}
use Rattle.linkages.proofs.SameMembers.{fence_by_members}
use Rattle.linkages.proofs.NetLists.{net_of, net_of_mem, first_on, same_net, net_of_first, pads_differ, nets_link}
use Rattle.linkages.proofs.Nexts.{next_right, next_left}
use Rattle.linkages.proofs.NetLists.{next_before, next_before_more, PassesFront, first_passes, last_in_mem, last_in_passes, last_in_last}
use Rattle.linkages.proofs.NetLists.{last_or_next}

-- each walk from t to a landing meets Y
abbrev Shut : Meaning → List ℕ → List ℕ → ℕ → Type 0
Shut m bars Y t = (z : ℕ) (xs : List ℕ) → Walk m bars z t xs → Landing m z → Meets Y xs

shut_from_blocks : {m : Meaning} {bars Y : List ℕ} {a : ℕ} (A : List ℕ) → Blocks m bars A Y → Mem a A → Shut m bars Y a
shut_from_blocks {a = a} A b k z xs w l =
    let i = loopless w in
    let h = b a z i.cells k i.path l in
    record { cell = h.cell; of = h.of; on = i.within h.cell h.on }

shut_past : {m : Meaning} {bars Y : List ℕ} {u v : ℕ} → Shut m bars Y u → (Mem u Y → ⊥) → Unbarred bars u → Mem v (outlets_of m u) →
    Shut m bars Y v
shut_past {u = u} s n f o z xs w l =
    let h = s z (u ∷ xs) (step f o w) l in
    record { cell = h.cell; of = h.of; on = elim (mem_cases h.on) [ inl e ↦ absurd (n (mem_at (sym e) h.of)) | inr k ↦ k ] }

module _ (m : Meaning) (bars : List ℕ) (nets : List (List ℕ)) (p : ℕ) (Q : Wiring m bars nets) (up : Unbarred bars p) where
  pub entered_unbarred : {c : ℕ} → Entered m bars nets p c → Unbarred bars c
  entered_unbarred start = up
  entered_unbarred (onward r e f o) = f
  entered_unbarred (backward r (off_nets n e)) = subst (Unbarred bars) (sym e) (entered_unbarred r)
  entered_unbarred (backward r (along xs k n)) = walk_unbarred (Q.runs xs k).walk (next_left n)

  -- ---- against other pads A, blocked by one cell less
  module _ (A Y : List ℕ) (d : Distinct A) (s : Within A (p ∷ pads_of nets)) (l : length A ≡ length Y + 1) (b : Blocks m bars A Y) where
    p_in : Mem p A
    p_in = holds_p m bars (pads_of nets) p (nets_link m bars nets Q) A Y d s l b

    -- a cell of Y is on the net of a wired pad of A
    on_net : {y : ℕ} → Mem y Y → (xs : List ℕ) × Mem xs nets × Mem y xs × Mem (first_of xs) (without p A)
    unfolding nets_link
    on_net {y} k =
        let L = nets_link m bars nets Q in
        let t = on_path m bars (pads_of nets) p L A Y d s l b k in
        let h = net_of_mem nets t.0 (linked m bars (pads_of nets) p L A Y d s l b t.0 t.1) in
        (net_of nets t.0, h.0, t.2, mem_at (sym h.1) t.1)

    -- and it is the only one there
    one_on_net : {xs : List ℕ} {x y : ℕ} → Mem xs nets → Mem (first_of xs) (without p A) → Mem x Y → Mem x xs → Mem y Y → Mem y xs → x ≡ y
    unfolding nets_link
    one_on_net {xs} {x} {y} k w x-in x-on y-in y-on =
        let e = sym (net_of_first m bars nets Q xs k) in
        one_on_path m bars (pads_of nets) p (nets_link m bars nets Q) A Y d s l b w x-in (subst (Mem x) e x-on) y-in (subst (Mem y) e y-on)

    none_off : {y : ℕ} → Mem y Y → OffNets nets y → ⊥
    none_off k n = let t = on_net k in n t.0 t.1 t.2

    -- the net's pad is in A, and the net has no cell of Y before t
    record Clear (xs : List ℕ) (t : ℕ) (k : Mem t xs) : Type 0 where
      pad_in : Mem (first_of xs) A
      clear : (c : ℕ) → Mem c (before k) → Mem c Y → ⊥

    clear_before : {xs : List ℕ} {t : ℕ} → Shut m bars Y t → Mem xs nets → (k : Mem t xs) → Clear xs t k
    clear_before {xs} {t} sh laid k =
        let P = Q.runs xs laid in
        let h = sh (Q.end xs) (from k) (walk_from P.walk k) (Q.lands xs laid) in
        let on = from_within k h.on in
        let t = on_net h.of in
        let w = mem_at (ap first_of (same_net m bars nets Q laid t.1 on t.2)) t.3 in
        record {
          pad_in = (mem_of_without p (first_of xs) A w).0;
          clear = λ c i j. before_not_from k P.distinct i (mem_at (one_on_net laid w j (before_within k i) h.of on) h.on);
        }

    exit_shut : {t u : ℕ} → Shut m bars Y t → Exit nets t u → Shut m bars Y u × (Mem u Y → ⊥)
    exit_shut {t} {u} sh (off_nets n e) = (subst (Shut m bars Y) (sym e) sh, λ k. none_off (mem_at (sym e) k) n)
    exit_shut {t} {u} sh (along xs k n) = (back, C.clear u (next_before n))
      where
        C : Clear xs t (next_right n)
        C = clear_before sh k (next_right n)

        back : Shut m bars Y u
        back z ys v l =
            let g = graft (Q.runs xs k).walk (next_left n) v in
            let h = shut_from_blocks A b C.pad_in z g.cells g.walk l in
            let on : Mem h.cell ys = elim (g.parts h.cell h.on) [
              | inl i ↦ absurd (C.clear h.cell (next_before_more n i) h.of)
              | inr i ↦ i
            ] in
            record { cell = h.cell; of = h.of; on = on }

    entered_shut : {t : ℕ} → Entered m bars nets p t → Shut m bars Y t
    entered_shut start = shut_from_blocks A b p_in
    entered_shut (onward r e f o) =
        let h = exit_shut (entered_shut r) e in
        shut_past h.0 h.1 (entered_unbarred (backward r e)) o
    entered_shut (backward r e) = (exit_shut (entered_shut r) e).0

    entered_pad : {w : ℕ} → Mem w (pads_of nets) → Entered m bars nets p w → Mem w A
    entered_pad {w} k r =
        let h = net_of_mem nets w k in
        let xs = net_of nets w in
        let C = clear_before (subst (λ (a : ℕ). Shut m bars Y a) h.1 (entered_shut r)) h.0 (first_on m bars nets Q xs h.0) in
        mem_at h.1 C.pad_in

    entered_clear : {xs : List ℕ} {y t : ℕ} → Mem xs nets → Next y t xs → Entered m bars nets p t → Mem y Y → ⊥
    entered_clear {y = y} k n r = (clear_before (entered_shut r) k (next_right n)).clear y (next_before n)

-- ---- the fence
module _ (m : Meaning) (bars : List ℕ) (nets : List (List ℕ)) (p : ℕ) (entered : ℕ → Bool) (T : Trapped m bars nets p entered) where
  abbrev A : List ℕ
  A = fence_pads nets p entered

  abbrev X : List ℕ
  X = fence_cells nets entered

  abbrev Came : ℕ → Type 0
  Came c = Entered m bars nets p c

  front : (xs : List ℕ) → Mem xs nets → PassesFront entered xs
  front xs k u t n e = T.failed.whole u (backward (T.failed.sound t e) (along xs k n))

  begun : List ℕ → Bool
  begun xs = entered (first_of xs)

  cell_of : List ℕ → ℕ
  cell_of xs = last_in entered (first_of xs) xs

  cell_on : (xs : List ℕ) → Mem xs nets → Mem (cell_of xs) xs
  unfolding cell_of
  cell_on xs k =
      elim (last_in_mem entered (first_of xs) xs) [ inl e ↦ mem_at e (first_on m bars nets T.wiring xs k) | inr i ↦ i ]

  -- an entered cell of a net is the fence's, or has a next that is entered
  last_cell : {c : ℕ} (xs : List ℕ) → Mem xs nets → Mem c xs → entered c ≡ true → Mem c X ⊎ ((t : ℕ) × Next c t xs × (entered t ≡ true))
  unfolding cell_of begun
  last_cell {c} xs laid on came =
      let fr = front xs laid in
      let k = first_passes entered (T.wiring.runs xs laid).walk fr on came in
      elim (last_or_next entered (first_of xs) c xs fr on came) [
        | inl e ↦ inl (mem_at e (mem_map cell_of (mem_kept begun laid k)))
        | inr s ↦ inr s
      ]

  cells_from : (c : ℕ) → LastEntered nets entered c → Mem c X
  cells_from c h = elim (last_cell h.net h.laid h.on h.came) [
    | inl k ↦ k
    | inr s ↦ absurd (h.no_further s.0 s.1 s.2)
  ]

  cells_to : (c : ℕ) → Mem c X → LastEntered nets entered c
  unfolding cell_of begun
  cells_to c k =
      let t = mem_of_map cell_of c (filter begun nets) k in
      let xs = t.0 in
      let h = mem_of_kept begun xs nets t.1 in
      record {
        net = xs;
        laid = h.0;
        on = mem_at t.2 (cell_on xs h.0);
        came = ap entered t.2 ∙ last_in_passes entered (first_of xs) xs h.1;
        no_further = λ u n. last_in_last entered (first_of xs) u xs (T.wiring.runs xs h.0).distinct
            (subst (λ (s : ℕ). Next s u xs) t.2 n);
      }

  -- an entered cell that is none of the fence's: on no net, or one with a next that is entered
  goes : (v : ℕ) → Came v → (Mem v X → ⊥) → OffNets nets v ⊎ ((xs : List ℕ) × (t : ℕ) × Mem xs nets × Next v t xs × Came t)
  goes v r n = go (held_or_not nets v)
    where
      go : ((xs : List ℕ) × Mem xs nets × Mem v xs) ⊎ OffNets nets v →
          OffNets nets v ⊎ ((xs : List ℕ) × (t : ℕ) × Mem xs nets × Next v t xs × Came t)
      go (inr k) = inl k
      go (inl h) = elim (last_cell h.0 h.1 h.2 (T.failed.whole v r)) [
        | inl k ↦ absurd (n k)
        | inr s ↦ inr (h.0, s.0, h.1, s.1, T.failed.sound s.0 s.2)
      ]

  passed : (v u : ℕ) → Came v → (Mem v X → ⊥) → Unbarred bars u → Mem u (outlets_of m v) → Came u
  passed v u r n f o = elim (goes v r n) [
    | inl k ↦ onward r (off_nets k refl) f o
    | inr s ↦ onward s.4 (along s.0 s.2 s.3) f o
  ]

  walk_entered : {z a : ℕ} {xs : List ℕ} → Walk m bars z a xs → Came a → (Meets X xs → ⊥) → Came z × (Mem z X → ⊥)
  walk_entered (stop f e) r n = (subst Came e r, λ k. n (record { cell = _; of = k; on = here (sym e) }))
  walk_entered {a = a} (step {b = b} f o w) r n =
      let next = passed a b r (λ k. n (record { cell = a; of = k; on = here refl })) (walk_unbarred w (walk_first w)) o in
      walk_entered w next (λ h. n (record { cell = h.cell; of = h.of; on = there h.on }))

  pad_entered : (a : ℕ) → Mem a A → Came a
  pad_entered a (here e) = subst Came (sym e) start
  pad_entered a (there k) = T.failed.sound a (mem_of_kept entered a (pads_of nets) k).1

  -- a path from a pad of the fence that avoids its cells enters all that it passes
  meets_or_enters : {a z : ℕ} {xs : List ℕ} → Mem a A → Path m bars a z xs → Meets X xs ⊎ (Came z × (Mem z X → ⊥))
  meets_or_enters {a} {z} {xs} k P = go (dec_meets X xs)
    where
      go : Dec (Meets X xs) → Meets X xs ⊎ (Came z × (Mem z X → ⊥))
      go (yes h) = inl h
      go (no n) = inr (walk_entered P.walk (pad_entered a k) n)

  no_way : (z : ℕ) → Landing m z → Came z × (Mem z X → ⊥) → ⊥
  no_way z l h = elim (goes z h.0 h.1) [
    | inl n ↦ T.failed.no_landing z h.0 l n
    | inr s ↦ T.wiring.lands_once s.0 s.2 z s.1 s.3 l
  ]

  blocked : Blocks m bars A X
  blocked a z xs k P l = elim (meets_or_enters k P) [ inl h ↦ h | inr h ↦ absurd (no_way z l h) ]

  differ : Distinct A
  differ =
      let d = pads_differ m bars nets T.wiring in
      (λ k. T.unwired (mem_of_kept entered p (pads_of nets) k).0, distinct_kept entered (pads_of nets) d)

  inside : Within A (p ∷ pads_of nets)
  inside c (here e) = here e
  inside c (there k) = there (mem_of_kept entered c (pads_of nets) k).0

  counts : length A ≡ length X + 1
  unfolding cell_of begun
  counts =
      let h = length-map (filter begun nets) cell_of in
      let k = length_kept_map first_of entered nets in
      omega arith

  cells_differ : Distinct X
  unfolding cell_of begun
  cells_differ = distinct_picks cell_of (filter begun nets) (disjoint_kept begun nets T.wiring.disjoint)
      (λ xs k. cell_on xs (mem_of_kept begun xs nets k).0)

  fence : Fence m bars (p ∷ pads_of nets) A X
  fence = record {
    pads_differ = differ;
    cells_differ = cells_differ;
    inside = inside;
    count = counts;
    cells_unbarred = λ c k. let h = cells_to c k in walk_unbarred (T.wiring.runs h.net h.laid).walk h.on;
    blocks = blocked;
    fewest = λ A' Y d s l b c k. elim (mem_cases k) [
      | inl e ↦ mem_at e (p_in m bars nets p T.wiring T.unbarred A' Y d s l b)
      | inr i ↦ let h = mem_of_kept entered c (pads_of nets) i in
          entered_pad m bars nets p T.wiring T.unbarred A' Y d s l b h.0 (T.failed.sound c h.1)
    ];
    nearest = nearest;
  }
    where
      nearest : (Y : List ℕ) → length Y ≡ length X → Blocks m bars A Y → (a y : ℕ) (xs : List ℕ) → Mem a A → Mem y Y → Path m bars a y xs →
          Meets X xs
      nearest Y l b a y xs k i P = elim (meets_or_enters k P) [ inl h ↦ h | inr h ↦ absurd (past h) ]
        where
          size : length A ≡ length Y + 1
          size = let h = counts in omega arith

          past : Came y × (Mem y X → ⊥) → ⊥
          past h = elim (goes y h.0 h.1) [
            | inl n ↦ none_off m bars nets p T.wiring T.unbarred A Y differ inside size b i n
            | inr s ↦ entered_clear m bars nets p T.wiring T.unbarred A Y differ inside size b s.2 s.3 s.4 i
          ]

  -- ---- other lists with the same members
  pads_from : (c : ℕ) → Mem c (p ∷ pads_of nets) → entered c ≡ true → Mem c A
  pads_from c (here e) h = here e
  pads_from c (there k) h = there (mem_kept entered k h)

  shown : (A' X' : List ℕ) → Shows nets p entered A' X' → Fence m bars (p ∷ pads_of nets) A' X'
  shown A' X' W =
      let S = p ∷ pads_of nets in
      let to : Within A A' = λ c k. W.pads_all c (inside c k) (T.failed.whole c (pad_entered c k)) in
      let back : Within A' A = λ c k. let h = W.pads_only c k in pads_from c h.0 h.1 in
      let x : Same X X' = (λ c k. W.cells_all c (cells_to c k), λ c k. cells_from c (W.cells_only c k)) in
      fence_by_members m bars bars S S A A' X X' (λ c k. k, λ c k. k) (λ c k. k, λ c k. k) (to, back) x W.pads_differ
      W.cells_differ fence

pub search_fences : SearchFences
search_fences m bars nets p entered T = fence m bars nets p entered T

pub trapped_cannot_be_met : TrappedCannotBeMet
trapped_cannot_be_met m bars nets p entered T =
    let S = p ∷ pads_of nets in
    let F = search_fences m bars nets p entered T in
    no_linkage m bars S (fence_pads nets p entered) (fence_cells nets entered) S F F.inside

pub shown_fences : ShownFences
shown_fences m bars nets p entered T = shown m bars nets p entered T

pub the_fence : TheFence
the_fence m bars nets p entered T A X F =
    one_fence m bars (p ∷ pads_of nets) (pads_of nets) p (λ c k. k) (nets_link m bars nets T.wiring) A X
    (fence_pads nets p entered) (fence_cells nets entered) F (search_fences m bars nets p entered T)
