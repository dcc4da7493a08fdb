-- Parts of walks and paths, and walks shortened to paths.
use Rattle.std.proofs.Common.{◌≡◌, ℕ, Bool, true, false, cond, ◌⊎◌, List, [], ◌∷◌, sym, refl, ap, ◌∙◌, subst, inl, inr}
use mathlib.Core.Bool.{false≢true}
use Rattle.boards.specs.Meaning.{Meaning, landing_at}
use Rattle.linkages.specs.Lists.{Mem, here, there, Within, Distinct, Next, Front}
use Rattle.linkages.specs.Paths.{Landing, Unbarred, Walk, stop, step, Path, LandsOnce, upto_landing, WalksShorten, FrontsArePaths}
use Rattle.linkages.specs.Paths.{Truncated}
use Rattle.linkages.proofs.Nexts.{next_cases, next_not_one}
use Rattle.linkages.proofs.Members.{mem_none, mem_cases, mem_at, dec_mem, mem_front, distinct_front}

pub walk_first : {m : Meaning} {bars : List ℕ} {z a : ℕ} {xs : List ℕ} → Walk m bars z a xs → Mem a xs
walk_first (stop f e) = here refl
walk_first (step f o w) = here refl

pub walk_last : {m : Meaning} {bars : List ℕ} {z a : ℕ} {xs : List ℕ} → Walk m bars z a xs → Mem z xs
walk_last (stop f e) = here (sym e)
walk_last (step f o w) = there (walk_last w)

pub walk_unbarred : {m : Meaning} {bars : List ℕ} {z a c : ℕ} {xs : List ℕ} → Walk m bars z a xs → Mem c xs → Unbarred bars c
walk_unbarred {bars = bars} (stop f e) (here g) = subst (Unbarred bars) (sym g) f
walk_unbarred (stop f e) (there k) = absurd (mem_none k)
walk_unbarred {bars = bars} (step f o w) (here g) = subst (Unbarred bars) (sym g) f
walk_unbarred (step f o w) (there k) = walk_unbarred w k

-- ---- as far as a cell

pub upto : {c : ℕ} {xs : List ℕ} → Mem c xs → List ℕ
upto (here {x = x} e) = x ∷ []
upto (there {x = x} k) = x ∷ upto k

pub upto_within : {c d : ℕ} {xs : List ℕ} (k : Mem c xs) → Mem d (upto k) → Mem d xs
unfolding upto
upto_within (here e) (here f) = here f
upto_within (here e) (there i) = absurd (mem_none i)
upto_within (there k) (here f) = here f
upto_within (there k) (there i) = there (upto_within k i)

pub upto_front : {c : ℕ} {xs : List ℕ} (k : Mem c xs) → Front (upto k) xs
unfolding upto
upto_front (here {xs = xs} e) = (xs, refl)
upto_front (there {x = x} k) = let f = upto_front k in (f.0, ap (λ l. x ∷ l) f.1)

pub front_within : (ys xs : List ℕ) → Front ys xs → Within ys xs
front_within ys xs f c k = subst (Mem c) f.1 (mem_front f.0 k)

pub front_distinct : (ys xs : List ℕ) → Front ys xs → Distinct xs → Distinct ys
front_distinct ys xs f d = distinct_front ys f.0 (subst Distinct (sym f.1) d)

-- of two cells of which each comes as far as the other, the one is the other
pub upto_same : {c d : ℕ} {xs : List ℕ} (k : Mem c xs) (l : Mem d xs) → Distinct xs → Mem d (upto k) → Mem c (upto l) → c ≡ d
unfolding upto
upto_same (here e) l s i j = elim (mem_cases i) [ inl f ↦ e ∙ sym f | inr h ↦ absurd (mem_none h) ]
upto_same (there k) (here e) s i j = elim (mem_cases j) [ inl f ↦ f ∙ sym e | inr h ↦ absurd (mem_none h) ]
upto_same (there k) (there l) s (here f) j = absurd (s.0 (mem_at (sym f) l))
upto_same (there k) (there l) s (there i) (here f) = absurd (s.0 (mem_at (sym f) k))
upto_same (there k) (there l) s (there i) (there j) = upto_same k l s.1 i j

pub walk_upto : {m : Meaning} {bars : List ℕ} {z a c : ℕ} {xs : List ℕ} → Walk m bars z a xs → (k : Mem c xs) →
    Walk m bars c a (upto k)
unfolding upto
walk_upto (stop f e) (here g) = stop f (sym g)
walk_upto (stop f e) (there k) = absurd (mem_none k)
walk_upto (step f o w) (here g) = stop f (sym g)
walk_upto (step f o w) (there k) = step f o (walk_upto w k)

pub path_upto : {m : Meaning} {bars : List ℕ} {z a c : ℕ} {xs : List ℕ} → Path m bars a z xs → (k : Mem c xs) →
    Path m bars a c (upto k)
path_upto {xs = xs} P k = record { walk = walk_upto P.walk k; distinct = front_distinct (upto k) xs (upto_front k) P.distinct }

pub fronts_are_paths : FrontsArePaths
fronts_are_paths m bars a z c xs P k = (upto k, upto_front k, path_upto P k)

-- ---- before a cell, and from it on

unfoldable pub before : {c : ℕ} {xs : List ℕ} → Mem c xs → List ℕ
before (here e) = []
before (there {x = x} k) = x ∷ before k

pub from : {c : ℕ} {xs : List ℕ} → Mem c xs → List ℕ
from (here {x = x} {xs = xs} e) = x ∷ xs
from (there k) = from k

pub before_within : {c d : ℕ} {xs : List ℕ} (k : Mem c xs) → Mem d (before k) → Mem d xs
unfolding before
before_within (here e) i = absurd (mem_none i)
before_within (there k) (here f) = here f
before_within (there k) (there i) = there (before_within k i)

pub from_within : {c d : ℕ} {xs : List ℕ} (k : Mem c xs) → Mem d (from k) → Mem d xs
unfolding from
from_within (here e) i = i
from_within (there k) i = there (from_within k i)

pub from_distinct : {c : ℕ} {xs : List ℕ} (k : Mem c xs) → Distinct xs → Distinct (from k)
unfolding from
from_distinct (here e) d = d
from_distinct (there k) d = from_distinct k d.1

pub before_not_from : {c d : ℕ} {xs : List ℕ} (k : Mem c xs) → Distinct xs → Mem d (before k) → Mem d (from k) → ⊥
unfolding before from
before_not_from (here e) s i j = mem_none i
before_not_from (there k) s (here f) j = s.0 (mem_at (sym f) (from_within k j))
before_not_from (there k) s (there i) j = before_not_from k s.1 i j

pub walk_from : {m : Meaning} {bars : List ℕ} {z a c : ℕ} {xs : List ℕ} → Walk m bars z a xs → (k : Mem c xs) →
    Walk m bars z c (from k)
unfolding from
walk_from {m} {bars} {z} {a} (stop f e) (here g) = subst (λ (s : ℕ). Walk m bars z s (a ∷ [])) (sym g) (stop f e)
walk_from (stop f e) (there k) = absurd (mem_none k)
walk_from {m} {bars} {z} {a} (step {xs = xs} f o w) (here g) = subst (λ (s : ℕ). Walk m bars z s (a ∷ xs)) (sym g) (step f o w)
walk_from (step f o w) (there k) = walk_from w k

pub path_from : {m : Meaning} {bars : List ℕ} {z a c : ℕ} {xs : List ℕ} → Path m bars a z xs → (k : Mem c xs) →
    Path m bars c z (from k)
path_from P k = record { walk = walk_from P.walk k; distinct = from_distinct k P.distinct }

-- ---- walks to paths

-- a path inside a walk
pub record Inside (m : Meaning) (bars : List ℕ) (a z : ℕ) (xs : List ℕ) : Type 0 where
  pub cells : List ℕ
  pub path : Path m bars a z cells
  pub within : Within cells xs

pub loopless : {m : Meaning} {bars : List ℕ} {z a : ℕ} {xs : List ℕ} → Walk m bars z a xs → Inside m bars a z xs
loopless {a = a} (stop f e) =
    record { cells = a ∷ []; path = record { walk = stop f e; distinct = (mem_none, tt) }; within = λ c k. k }
loopless {m} {bars} {z} {a} (step {b = b} {xs = xs} f o w) = go (loopless w)
  where
    cut : (i : Inside m bars b z xs) → Dec (Mem a i.cells) → Inside m bars a z (a ∷ xs)
    cut i (yes k) = record {
      cells = from k;
      path = path_from i.path k;
      within = λ c h. there (i.within c (from_within k h));
    }
    cut i (no n) = record {
      cells = a ∷ i.cells;
      path = record { walk = step f o i.path.walk; distinct = (n, i.path.distinct) };
      within = λ c k. elim (mem_cases k) [ inl e ↦ here e | inr h ↦ there (i.within c h) ];
    }

    go : Inside m bars b z xs → Inside m bars a z (a ∷ xs)
    go i = cut i (dec_mem a i.cells)

pub walks_shorten : WalksShorten
walks_shorten m bars a z xs w = let i = loopless w in (i.cells, i.path, i.within)

-- ---- another end from a cell on

pub record Grafted (m : Meaning) (bars : List ℕ) (a z : ℕ) (front back : List ℕ) : Type 0 where
  pub cells : List ℕ
  pub walk : Walk m bars z a cells
  pub parts : (c : ℕ) → Mem c cells → Mem c front ⊎ Mem c back

pub graft : {m : Meaning} {bars : List ℕ} {y z a c : ℕ} {xs ys : List ℕ} → Walk m bars y a xs → (k : Mem c xs) → Walk m bars z c ys →
    Grafted m bars a z (before k) ys
unfolding before
graft {m} {bars} {z = z} {ys = ys} (stop f e) (here g) v =
    record { cells = ys; walk = subst (λ (s : ℕ). Walk m bars z s ys) g v; parts = λ c k. inr k }
graft (stop f e) (there k) v = absurd (mem_none k)
graft {m} {bars} {z = z} {ys = ys} (step f o w) (here g) v =
    record { cells = ys; walk = subst (λ (s : ℕ). Walk m bars z s ys) g v; parts = λ c k. inr k }
graft {m} {bars} {a = a} {ys = ys} (step f o w) (there k) v = let i = graft w k v in record {
  cells = a ∷ i.cells;
  walk = step f o i.walk;
  parts = λ c h. elim (mem_cases h) [
    | inl e ↦ inl (here e)
    | inr j ↦ elim (i.parts c j) [ inl l ↦ inl (there l) | inr l ↦ inr l ]
  ];
}

-- ---- cut after the first landing

pub upto_landing_front : (m : Meaning) (xs : List ℕ) → Front (upto_landing m xs) xs
upto_landing_front m [] = ([], refl)
upto_landing_front m (x ∷ xs) = go (landing_at m x) (upto_landing_front m xs)
  where
    go : (h : Bool) → Front (upto_landing m xs) xs → Front (cond h (x ∷ []) (x ∷ upto_landing m xs)) (x ∷ xs)
    go true f = (xs, refl)
    go false f = (f.0, ap (λ l. x ∷ l) f.1)

pub lands_once : (m : Meaning) (xs : List ℕ) → LandsOnce m (upto_landing m xs)
lands_once m [] u t n l = elim n [ ]
lands_once m (x ∷ xs) u t n l = go (landing_at m x) refl (lands_once m xs u t) n l
  where
    go : (h : Bool) → landing_at m x ≡ h → (Next u t (upto_landing m xs) → Landing m u → ⊥) →
        Next u t (cond h (x ∷ []) (x ∷ upto_landing m xs)) → Landing m u → ⊥
    go true h k n l = next_not_one n
    go false h k n l = elim (next_cases n) [
      | inl e ↦ false≢true (sym h ∙ (ap (landing_at m) (sym e) ∙ l))
      | inr i ↦ k i l
    ]

pub walk_to_landing : {m : Meaning} {bars : List ℕ} {z a : ℕ} {xs : List ℕ} → Walk m bars z a xs → Landing m z →
    (c : ℕ) × Landing m c × Walk m bars c a (upto_landing m xs)
walk_to_landing {m} {bars} {a = a} (stop f e) l = go (landing_at m a) refl (subst (Landing m) (sym e) l)
  where
    go : (h : Bool) → landing_at m a ≡ h → Landing m a → (c : ℕ) × Landing m c × Walk m bars c a (cond h (a ∷ []) (a ∷ []))
    go true h k = (a, k, stop f refl)
    go false h k = absurd (false≢true (sym h ∙ k))
walk_to_landing {m} {bars} {a = a} (step {b = b} {xs = xs} f o w) l = go (landing_at m a) refl (walk_to_landing w l)
  where
    go : (h : Bool) → landing_at m a ≡ h → (c : ℕ) × Landing m c × Walk m bars c b (upto_landing m xs) →
        (c : ℕ) × Landing m c × Walk m bars c a (cond h (a ∷ []) (a ∷ upto_landing m xs))
    go true h i = (a, h, stop f refl)
    go false h i = (i.0, i.1, step f o i.2)

pub truncated : Truncated
truncated m bars a z xs P l =
    let front = upto_landing_front m xs in
    let w = walk_to_landing P.walk l in
    (front, lands_once m xs, (w.0, w.1, record { walk = w.2; distinct = front_distinct (upto_landing m xs) xs front P.distinct }))
