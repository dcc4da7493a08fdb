-- Lists of cells laid as nets, one after the other.
use Rattle.std.proofs.Common.{◌≡◌, ℕ, ◌<◌, true, false, ◌⊎◌, List, [], ◌∷◌, length, set, Some, None, Option, sym, refl, ap, ◌∙◌, subst, inl, inr}
use Rattle.std.proofs.lemmas.List.{get_or-set_same, length-set}
use Rattle.std.proofs.lemmas.Bool.{false≢true}
use Rattle.boards.specs.Meaning.{Meaning}
use Rattle.linkages.specs.Lists.{Mem, here, there, Distinct, Disjoint, Next, begins, goes_on}
use Rattle.linkages.specs.Nets.{first_of, OffNets}
use Rattle.linkages.proofs.Members.{mem_none, mem_each}
use Rattle.records.specs.declared.record.Record.{Record}
use Rattle.records.specs.declared.record.Record.TheVariants.{Free, Barred, Net}
use Rattle.records.specs.Records.{before_of, after_of, is_net, is_first, is_last, record_at}
use Rattle.drawings.specs.Nets.{before_at, first_at, Runs, ends, goes}
use Rattle.drawings.specs.Changes.{head_of, laid, laid_after}
use Rattle.drawings.specs.Lawful.{Local}
use Rattle.drawings.proofs.Said.{none_not_some}
use Rattle.drawings.proofs.Locals.{local_free}
use Rattle.drawings.proofs.Relaying.{laid_long, laid_outside}

-- the cells of the list lie as one net, and the first names b before it
pub data Lies (d : List Record) : Option ℕ → List ℕ → Type 0 where
  no_more : {b : Option ℕ} → Lies d b []
  and_then : {b : Option ℕ} {c : ℕ} {cs : List ℕ} → record_at d c ≡ Net b (head_of cs) → Lies d (Some c) cs → Lies d b (c ∷ cs)

pub lies_kept : {d : List Record} {b : Option ℕ} {xs : List ℕ} (e : List Record) → Lies d b xs →
    ((k : ℕ) → Mem k xs → record_at e k ≡ record_at d k) → Lies e b xs
lies_kept e no_more f = no_more
lies_kept e (and_then {c = c} p l) f = and_then (f c (here refl) ∙ p) (lies_kept e l (λ k m. f k (there m)))

pub laid_lies : (b : Option ℕ) (xs : List ℕ) (d : List Record) → Distinct xs → ((k : ℕ) → Mem k xs → k < length d) → Lies (laid_after b xs d) b xs
laid_lies b [] d u f = no_more
laid_lies b (x ∷ xs) d u f =
    let e = set d x (Net b (head_of xs)) in
    and_then
    (laid_outside (Some x) xs e x u.0 ∙ get_or-set_same d x (Net b (head_of xs)) Free (f x (here refl)))
    (laid_lies (Some x) xs e u.1 (λ k m. subst (λ n. k < n) (sym (length-set d x (Net b (head_of xs)))) (f k (there m))))

-- ---- what the records say then

pub lies_runs : {d : List Record} {b : Option ℕ} (x : ℕ) (xs : List ℕ) → Lies d b (x ∷ xs) → Runs d x (x ∷ xs)
lies_runs x [] (and_then p l) = ends (ap is_last p)
lies_runs x (y ∷ ys) (and_then p l) = goes (ap after_of p) (lies_runs y ys l)

pub lies_first : {d : List Record} {b : Option ℕ} {x : ℕ} {xs : List ℕ} → Lies d b (x ∷ xs) → before_at d x ≡ b
lies_first (and_then p l) = ap before_of p

pub lies_begins : {d : List Record} {x : ℕ} {xs : List ℕ} → Lies d None (x ∷ xs) → first_at d x ≡ true
lies_begins (and_then p l) = ap is_first p

pub lies_before : {d : List Record} {b : Option ℕ} {s t : ℕ} {xs : List ℕ} → Lies d b xs → Next s t xs → before_at d t ≡ Some s
lies_before no_more n = elim n [ ]
lies_before {d} (and_then p l) (begins e f) = ap (before_at d) f ∙ (lies_first l ∙ ap Some (sym e))
lies_before (and_then p l) (goes_on n) = lies_before l n

-- a cell of a list is its first or comes after another
pub first_or_next : {c : ℕ} {xs : List ℕ} → Mem c xs → (c ≡ first_of xs) ⊎ ((s : ℕ) × Next s c xs)
first_or_next (here e) = inl e
first_or_next {c} (there {x = x} {xs = xs} k) = go xs k (first_or_next k)
  where
    go : (ys : List ℕ) → Mem c ys → (c ≡ first_of ys) ⊎ ((s : ℕ) × Next s c ys) → (c ≡ x) ⊎ ((s : ℕ) × Next s c (x ∷ ys))
    go [] m h = absurd (mem_none m)
    go (y ∷ ys) m (inl e) = inr (x, begins refl e)
    go (y ∷ ys) m (inr n) = inr (n.0, goes_on n.1)

-- ---- several nets

abbrev pub laid_all : List (List ℕ) → List Record → List Record
laid_all [] d = d
laid_all (xs ∷ xss) d = laid_all xss (laid xs d)

pub laid_all_length : (xss : List (List ℕ)) (d : List Record) → length (laid_all xss d) ≡ length d
laid_all_length [] d = refl
laid_all_length (xs ∷ xss) d = laid_all_length xss (laid xs d) ∙ laid_long None xs d

pub laid_all_outside : (xss : List (List ℕ)) (d : List Record) (k : ℕ) → OffNets xss k → record_at (laid_all xss d) k ≡ record_at d k
laid_all_outside [] d k n = refl
laid_all_outside (xs ∷ xss) d k n =
    laid_all_outside xss (laid xs d) k (λ ys i. n ys (there i)) ∙ laid_outside None xs d k (n xs (here refl))

pub laid_all_lie : (xss : List (List ℕ)) (d : List Record) → Disjoint xss → ((xs : List ℕ) → Mem xs xss → Distinct xs) →
    ((xs : List ℕ) (k : ℕ) → Mem xs xss → Mem k xs → k < length d) → (xs : List ℕ) → Mem xs xss → Lies (laid_all xss d) None xs
laid_all_lie [] d j u f xs m = absurd (mem_none m)
laid_all_lie (ys ∷ xss) d j u f xs m =
    mem_each (Lies (laid_all xss (laid ys d)) None)
    (lies_kept (laid_all xss (laid ys d)) (laid_lies None ys d (u ys (here refl)) (λ k. f ys k (here refl)))
    (λ k m. laid_all_outside xss (laid ys d) k (λ zs i h. j.0 zs k i m h)))
    (laid_all_lie xss (laid ys d) j.1 (λ xs m. u xs (there m)) (λ xs k m h. subst (λ n. k < n) (sym (laid_long None ys d)) (f xs k (there m) h)))
    xs m

-- ---- cells on no net keep the rules

pub local_off : (m : Meaning) (d : List Record) (c : ℕ) (r : Record) → record_at d c ≡ r → is_net r ≡ false → Local m d c
local_off m d c Free e n = local_free m d c e
local_off m d c Barred e n = record {
  first_is_pad = λ p. absurd (false≢true (sym (ap is_first e) ∙ p));
  last_is_landing = λ p. absurd (false≢true (sym (ap is_last e) ∙ p));
  landing_is_last = λ p l. absurd (false≢true (sym (ap is_net e) ∙ p));
  after_is_outlet = λ t p. absurd (none_not_some (sym (ap after_of e) ∙ p));
  after_names_back = λ t p. absurd (none_not_some (sym (ap after_of e) ∙ p));
  before_names_on = λ s p. absurd (none_not_some (sym (ap before_of e) ∙ p));
}
local_off m d c (Net b a) e n = absurd (false≢true (sym n))
