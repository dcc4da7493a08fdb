-- Nets by their pads, and the cells of a net that pass a test.
use Rattle.std.proofs.Common.{◌≡◌, ℕ, Bool, true, false, cond, ◌⊎◌, List, [], ◌∷◌, filter, sym, refl, ap, ◌∙◌, subst, inl, inr}
use mathlib.Core.Bool.{false≢true}
use native.Mathlib.Decide.{ℕ_discrete}
use Rattle.boards.specs.Meaning.{Meaning, outlets_of}
use Rattle.linkages.specs.Lists.{Mem, here, there, Distinct, Next, begins, goes_on}
use Rattle.linkages.specs.Paths.{Landing, Unbarred, Walk, stop, step, Path}
use Rattle.linkages.specs.Nets.{first_of, pads_of, Wiring, OffNets, Exit, off_nets, along, Entered, start, onward, backward, Failed}
use Rattle.linkages.specs.Nets.{last_in, NetsLink}
use Rattle.linkages.proofs.Members.{mem_none, mem_cases, mem_at, mem_of_kept, disjoint_kept, mem_map, same_list, distinct_picks}
use Rattle.linkages.proofs.Fewer.{path_under}
use Rattle.linkages.proofs.Walks.{walk_first, before}
use Rattle.linkages.proofs.Nexts.{next_two, next_not_one, next_right, next_left, next_one_before}

-- ---- nets by their pads

pick : {P : Type 0} → Dec P → List ℕ → List ℕ → List ℕ
pick (yes e) xs ys = xs
pick (no n) xs ys = ys

-- the first net that begins with w
pub net_of : List (List ℕ) → ℕ → List ℕ
net_of [] w = []
net_of (xs ∷ xss) w = pick (ℕ_discrete w (first_of xs)) xs (net_of xss w)

pub net_of_mem : (xss : List (List ℕ)) (w : ℕ) → Mem w (pads_of xss) → Mem (net_of xss w) xss × (w ≡ first_of (net_of xss w))
unfolding net_of pick
net_of_mem [] w k = absurd (mem_none k)
net_of_mem (xs ∷ xss) w k = go (ℕ_discrete w (first_of xs)) (mem_cases k) (net_of_mem xss w)
  where
    go : (d : Dec (w ≡ first_of xs)) → (w ≡ first_of xs) ⊎ Mem w (pads_of xss) →
        (Mem w (pads_of xss) → Mem (net_of xss w) xss × (w ≡ first_of (net_of xss w))) →
        Mem (pick d xs (net_of xss w)) (xs ∷ xss) × (w ≡ first_of (pick d xs (net_of xss w)))
    go (yes e) c k = (here refl, e)
    go (no n) (inl e) k = absurd (n e)
    go (no n) (inr h) k = (there (k h).0, (k h).1)

module _ (m : Meaning) (bars : List ℕ) (nets : List (List ℕ)) (Q : Wiring m bars nets) where
  pub first_on : (xs : List ℕ) → Mem xs nets → Mem (first_of xs) xs
  first_on xs k = walk_first (Q.runs xs k).walk

  -- two nets that share a cell are one
  pub same_net : {xs ys : List ℕ} {c : ℕ} → Mem xs nets → Mem ys nets → Mem c xs → Mem c ys → xs ≡ ys
  same_net = same_list nets Q.disjoint

  pub net_of_first : (xs : List ℕ) → Mem xs nets → net_of nets (first_of xs) ≡ xs
  net_of_first xs k =
      let h = net_of_mem nets (first_of xs) (mem_map first_of k) in
      same_net h.0 k (mem_at h.1 (first_on (net_of nets (first_of xs)) h.0)) (first_on xs k)

  pub pads_differ : Distinct (pads_of nets)
  pads_differ = distinct_picks first_of nets Q.disjoint first_on

unfoldable pub nets_link : NetsLink
nets_link m bars nets Q = record {
  path = net_of nets;
  end = λ w. Q.end (net_of nets w);
  runs = λ w k. let h = net_of_mem nets w k in
      subst (λ (a : ℕ). Path m bars a (Q.end (net_of nets w)) (net_of nets w)) (sym h.1) (Q.runs (net_of nets w) h.0);
  lands = λ w k. Q.lands (net_of nets w) (net_of_mem nets w k).0;
  apart = λ w v c k l i j.
      let h = net_of_mem nets w k in
      let g = net_of_mem nets v l in
      h.1 ∙ (ap first_of (same_net m bars nets Q h.0 g.0 i j) ∙ sym g.1);
}

-- the nets that pass a test
pub wiring_kept : {m : Meaning} {bars : List ℕ} {nets : List (List ℕ)} (r : List ℕ → Bool) → Wiring m bars nets →
    Wiring m bars (filter r nets)
wiring_kept {nets = nets} r Q = record {
  disjoint = disjoint_kept r nets Q.disjoint;
  end = Q.end;
  runs = λ xs k. Q.runs xs (mem_of_kept r xs nets k).0;
  lands = λ xs k. Q.lands xs (mem_of_kept r xs nets k).0;
  lands_once = λ xs k. Q.lands_once xs (mem_of_kept r xs nets k).0;
}

-- the nets under other bars, none of them on a net
pub wiring_under : {m : Meaning} {bars bars' : List ℕ} {nets : List (List ℕ)} → ((c : ℕ) → Mem c bars' → OffNets nets c) →
    Wiring m bars nets → Wiring m bars' nets
wiring_under off Q = record {
  disjoint = Q.disjoint;
  end = Q.end;
  runs = λ xs k. path_under (λ c i b. off c b xs k i) (Q.runs xs k);
  lands = Q.lands;
  lands_once = Q.lands_once;
}

-- ---- neighbours on a net

-- a search goes on from one cell at most
pub exit_one : {m : Meaning} {bars : List ℕ} {nets : List (List ℕ)} {t u v : ℕ} → Wiring m bars nets → Exit nets t u → Exit nets t v → u ≡ v
exit_one Q (off_nets n e) (off_nets k f) = e ∙ sym f
exit_one Q (off_nets n e) (along xs k i) = absurd (n xs k (next_right i))
exit_one Q (along xs k i) (off_nets n e) = absurd (n xs k (next_right i))
exit_one {m} {bars} {nets} {t} {u} {v} Q (along xs k i) (along ys l j) =
    let e = same_net m bars nets Q k l (next_right i) (next_right j) in
    next_one_before (Q.runs xs k).distinct i (subst (Next v t) (sym e) j)

-- a cell is before the next one, and so is what is before it
pub next_before : {u t : ℕ} {xs : List ℕ} (n : Next u t xs) → Mem u (before (next_right n))
unfolding before next_right
next_before (begins e f) = here e
next_before (goes_on n) = there (next_before n)

pub next_before_more : {u t c : ℕ} {xs : List ℕ} (n : Next u t xs) → Mem c (before (next_left n)) → Mem c (before (next_right n))
unfolding before next_right next_left
next_before_more (begins e f) k = absurd (mem_none k)
next_before_more (goes_on n) (here e) = here e
next_before_more (goes_on n) (there k) = there (next_before_more n k)

-- ---- cells that pass a test

-- with a cell the one before it passes
abbrev pub PassesFront : (ℕ → Bool) → List ℕ → Type 0
PassesFront r xs = (u t : ℕ) → Next u t xs → r t ≡ true → r u ≡ true

-- if a cell passes so does the first
pub first_passes : {m : Meaning} {bars : List ℕ} (r : ℕ → Bool) {z a c : ℕ} {xs : List ℕ} → Walk m bars z a xs → PassesFront r xs →
    Mem c xs → r c ≡ true → r a ≡ true
first_passes r (stop f e) fr (here g) p = ap r (sym g) ∙ p
first_passes r (stop f e) fr (there k) p = absurd (mem_none k)
first_passes r (step f o w) fr (here g) p = ap r (sym g) ∙ p
first_passes r {a = a} (step {b = b} f o w) fr (there k) p =
    fr a b (walk_next w) (first_passes r w (λ u t n. fr u t (goes_on n)) k p)
  where
    walk_next : {m : Meaning} {bars : List ℕ} {z a b : ℕ} {xs : List ℕ} → Walk m bars z b xs → Next a b (a ∷ xs)
    walk_next (stop f e) = begins refl refl
    walk_next (step f o w) = begins refl refl

pub last_in_mem : (r : ℕ → Bool) (d : ℕ) (xs : List ℕ) → (last_in r d xs ≡ d) ⊎ Mem (last_in r d xs) xs
last_in_mem r d [] = inl refl
last_in_mem r d (x ∷ xs) = go (r x) (last_in_mem r (cond (r x) x d) xs)
  where
    go : (b : Bool) → (last_in r (cond b x d) xs ≡ cond b x d) ⊎ Mem (last_in r (cond b x d) xs) xs →
        (last_in r (cond b x d) xs ≡ d) ⊎ Mem (last_in r (cond b x d) xs) (x ∷ xs)
    go true (inl e) = inr (here e)
    go false (inl e) = inl e
    go true (inr k) = inr (there k)
    go false (inr k) = inr (there k)

pub last_in_passes : (r : ℕ → Bool) (d : ℕ) (xs : List ℕ) → r d ≡ true → r (last_in r d xs) ≡ true
last_in_passes r d [] p = p
last_in_passes r d (x ∷ xs) p = last_in_passes r (cond (r x) x d) xs (go (r x) refl)
  where
    go : (b : Bool) → r x ≡ b → r (cond b x d) ≡ true
    go true e = e
    go false e = p

last_in_on : (r : ℕ → Bool) (d x : ℕ) (xs : List ℕ) → r x ≡ true → Mem (last_in r d (x ∷ xs)) (x ∷ xs)
last_in_on r d x xs p = rw p (elim (last_in_mem r x xs) [ inl e ↦ here e | inr k ↦ there k ])

-- the cell after the last that passes does not pass
pub last_in_last : (r : ℕ → Bool) (d t : ℕ) (xs : List ℕ) → Distinct xs → Next (last_in r d xs) t xs → r t ≡ true → ⊥
last_in_last r d t [] s n p = elim n [ ]
last_in_last r d t (x ∷ []) s n p = next_not_one n
last_in_last r d t (x ∷ y ∷ ys) s n p = elim (next_two n) [
  | inl h ↦ s.0 (mem_at (sym h.0) (last_in_on r (cond (r x) x d) y ys (ap r (sym h.1) ∙ p)))
  | inr k ↦ last_in_last r (cond (r x) x d) t (y ∷ ys) s.1 k p
]

-- nothing passes
last_in_none : (r : ℕ → Bool) (d y : ℕ) (ys : List ℕ) → PassesFront r (y ∷ ys) → r y ≡ false → last_in r d (y ∷ ys) ≡ d
last_in_none r d y [] fr n = rw n
last_in_none r d y (x ∷ ys) fr n = go (r x) refl (last_in_none r d x ys (λ u t k. fr u t (goes_on k)))
  where
    go : (b : Bool) → r x ≡ b → (r x ≡ false → last_in r d (x ∷ ys) ≡ d) → last_in r d (y ∷ x ∷ ys) ≡ d
    go true q k = absurd (false≢true (sym n ∙ fr y x (begins refl refl) q))
    go false q k = rw n (k q)

-- what passes is the last that does, or has a next that passes
pub last_or_next : (r : ℕ → Bool) (d c : ℕ) (xs : List ℕ) → PassesFront r xs → Mem c xs → r c ≡ true →
    (c ≡ last_in r d xs) ⊎ ((t : ℕ) × Next c t xs × (r t ≡ true))
last_or_next r d c [] fr k p = absurd (mem_none k)
last_or_next r d c (x ∷ []) fr k p =
    elim (mem_cases k) [ inl e ↦ inl (rw (ap r (sym e) ∙ p) e) | inr h ↦ absurd (mem_none h) ]
last_or_next r d c (x ∷ y ∷ ys) fr k p =
    go (mem_cases k) (r y) refl (λ h. last_or_next r (cond (r x) x d) c (y ∷ ys) rest h p)
  where
    rest : PassesFront r (y ∷ ys)
    rest u t n = fr u t (goes_on n)

    go : (c ≡ x) ⊎ Mem c (y ∷ ys) → (b : Bool) → r y ≡ b →
        (Mem c (y ∷ ys) → (c ≡ last_in r (cond (r x) x d) (y ∷ ys)) ⊎ ((t : ℕ) × Next c t (y ∷ ys) × (r t ≡ true))) →
        (c ≡ last_in r d (x ∷ y ∷ ys)) ⊎ ((t : ℕ) × Next c t (x ∷ y ∷ ys) × (r t ≡ true))
    go (inl e) true q k = inr (y, begins e refl, q)
    go (inl e) false q k =
        inl (let s = last_in_none r (cond (r x) x d) y ys rest q in e ∙ sym (s ∙ (rw (ap r (sym e) ∙ p))))
    go (inr h) b q k = elim (k h) [ inl e ↦ inl e | inr s ↦ inr (s.0, goes_on s.1, s.2) ]

-- ---- what a search enters

-- what holds of p and stays so from a cell to the next holds of all that is entered
pub entered_holds : {m : Meaning} {bars : List ℕ} {nets : List (List ℕ)} {p : ℕ} (P : ℕ → Type 0) → P p →
    ((t u : ℕ) → P t → Exit nets t u → P u) →
    ((t u v : ℕ) → P t → Exit nets t u → Unbarred bars v → Mem v (outlets_of m u) → P v) →
    (c : ℕ) → Entered m bars nets p c → P c
entered_holds P s b o c start = s
entered_holds P s b o c (onward {t = t} {u = u} r e f k) = o t u c (entered_holds P s b o t r) e f k
entered_holds P s b o c (backward {t = t} r e) = b t c (entered_holds P s b o t r) e

-- a set of entered cells that holds p, that the search does not leave and that has no landing off the nets: the search failed
pub failed_from_closed : (m : Meaning) (bars : List ℕ) (nets : List (List ℕ)) (p : ℕ) (entered : ℕ → Bool) →
    ((c : ℕ) → entered c ≡ true → Entered m bars nets p c) → entered p ≡ true →
    ((t u : ℕ) → entered t ≡ true → Exit nets t u → entered u ≡ true) →
    ((t u v : ℕ) → entered t ≡ true → Exit nets t u → Unbarred bars v → Mem v (outlets_of m u) → entered v ≡ true) →
    ((c : ℕ) → entered c ≡ true → Landing m c → OffNets nets c → ⊥) → Failed m bars nets p entered
failed_from_closed m bars nets p entered sound s b o none =
    let whole = entered_holds (λ c. entered c ≡ true) s b o in
    record { sound = sound; whole = whole; no_landing = λ c r. none c (whole c r) }
