-- A net taken up and laid again.
use Rattle.std.proofs.Common.{◌≡◌, ℕ, ◌<◌, true, List, [], ◌∷◌, length, set, Some, None, Option, sym, refl, ap, ◌∙◌, subst}
use Rattle.std.proofs.lemmas.List.{get_or-set_same, length-set, ext_get_or}
use Rattle.std.proofs.lemmas.Bool.{false≢true}
use Rattle.boards.specs.Meaning.{Meaning}
use Rattle.linkages.specs.Lists.{Mem, here, there}
use Rattle.linkages.proofs.Members.{mem_none, dec_mem}
use Rattle.records.specs.declared.record.Record.{Record}
use Rattle.records.specs.declared.record.Record.TheVariants.{Free, Barred, Net}
use Rattle.records.specs.Records.{before_of, after_of, is_net, is_first, record_at}
use Rattle.drawings.specs.Nets.{before_at, first_at, net, Runs, ends, goes}
use Rattle.drawings.specs.Changes.{freed, head_of, laid, laid_after}
use Rattle.drawings.specs.Lawful.{Local, Lawful}
use Rattle.drawings.proofs.Said.{last_net, after_net, net_inside}
use Rattle.drawings.proofs.Changed.{set_other, freed_long, freed_outside}
use Rattle.drawings.proofs.Follow.{net_runs}

record_is : (r : Record) → is_net r ≡ true → r ≡ Net (before_of r) (after_of r)
record_is Free e = absurd (false≢true e)
record_is Barred e = absurd (false≢true e)
record_is (Net b a) e = refl

first_none : (r : Record) → is_first r ≡ true → before_of r ≡ None
first_none Free e = refl
first_none Barred e = refl
first_none (Net None a) e = refl
first_none (Net (Some s) a) e = absurd (false≢true e)

pub laid_long : (b : Option ℕ) (xs : List ℕ) (e : List Record) → length (laid_after b xs e) ≡ length e
laid_long b [] e = refl
laid_long b (x ∷ xs) e = laid_long (Some x) xs (set e x (Net b (head_of xs))) ∙ length-set e x (Net b (head_of xs))

pub laid_outside : (b : Option ℕ) (xs : List ℕ) (e : List Record) (k : ℕ) → (Mem k xs → ⊥) → record_at (laid_after b xs e) k ≡ record_at e k
laid_outside b [] e k n = refl
laid_outside b (x ∷ xs) e k n =
    laid_outside (Some x) xs (set e x (Net b (head_of xs))) k (λ i. n (there i)) ∙ set_other e x k (Net b (head_of xs)) (λ f. n (here f))

run_head : {d : List Record} {c : ℕ} {xs : List ℕ} → Runs d c xs → head_of xs ≡ Some c
run_head (ends e) = refl
run_head (goes e r) = refl

module _ (m : Meaning) (d : List Record) (L : (c : ℕ) → Local m d c) where
  -- the record that is laid at a cell is the one that it had
  relaid : (c : ℕ) (b a : Option ℕ) (e : List Record) → is_net (record_at d c) ≡ true → length e ≡ length d →
      before_of (record_at d c) ≡ b → after_of (record_at d c) ≡ a → record_at (set e c (Net b a)) c ≡ record_at d c
  relaid c b a e h long p q =
      get_or-set_same e c (Net b a) Free (subst (λ n. c < n) (sym long) (net_inside d c h)) ∙
      sym (record_is (record_at d c) h ∙ ap (λ o. Net o (after_of (record_at d c))) p ∙ ap (Net b) q)

  pub laid_inside : {c : ℕ} {xs : List ℕ} (b : Option ℕ) (e : List Record) → Runs d c xs → before_at d c ≡ b → length e ≡ length d →
      (k : ℕ) → Mem k xs → record_at (laid_after b xs e) k ≡ record_at d k
  laid_inside b e (ends {c = c} p) f long k i = go i
    where
      go : Mem k (c ∷ []) → record_at (set e c (Net b None)) k ≡ record_at d k
      go (here g) = ap (record_at (set e c (Net b None))) g ∙ relaid c b None e (last_net (record_at d c) p).0 long f (last_net (record_at d c) p).1 ∙ sym (ap (record_at d) g)
      go (there j) = absurd (mem_none j)
  laid_inside b e (goes {c = c} {t = t} {xs = xs} p r) f long k i =
      go (laid_inside (Some c) (set e c (Net b (head_of xs))) r ((L c).after_names_back t p) (length-set e c (Net b (head_of xs)) ∙ long) k) i (dec_mem k xs)
    where
      go : (Mem k xs → record_at (laid_after (Some c) xs (set e c (Net b (head_of xs)))) k ≡ record_at d k) → Mem k (c ∷ xs) → Dec (Mem k xs) →
          record_at (laid_after (Some c) xs (set e c (Net b (head_of xs)))) k ≡ record_at d k
      go rec i (yes j) = rec j
      go rec (there j) (no n) = rec j
      go rec (here g) (no n) =
          laid_outside (Some c) xs (set e c (Net b (head_of xs))) k n ∙ ap (record_at (set e c (Net b (head_of xs)))) g ∙
          relaid c b (head_of xs) e (after_net (record_at d c) t p).0 long f (p ∙ sym (run_head r)) ∙ sym (ap (record_at d) g)

-- taking up the net of a wired pad and laying it again gives the same drawing
pub relaying_restores : (m : Meaning) (d : List Record) (c : ℕ) → Lawful m d → first_at d c ≡ true → laid (net d c) (freed (net d c) d) ≡ d
relaying_restores m d c W p =
    ext_get_or Free (laid (net d c) (freed (net d c) d)) d (laid_long None (net d c) (freed (net d c) d) ∙ freed_long (net d c) d) (λ k h. go k (dec_mem k (net d c)))
  where
    go : (k : ℕ) → Dec (Mem k (net d c)) → record_at (laid (net d c) (freed (net d c) d)) k ≡ record_at d k
    go k (yes i) = laid_inside m d W.local None (freed (net d c) d) (net_runs m d W.local c p) (first_none (record_at d c) p) (freed_long (net d c) d) k i
    go k (no n) = laid_outside None (net d c) (freed (net d c) d) k n ∙ freed_outside (net d c) d k n
