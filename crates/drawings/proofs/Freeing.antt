-- What stays lawful when cells are freed.
use Rattle.std.proofs.Common.{◌≡◌, ℕ, Bool, true, false, not, ◌&&◌, eqb, ◌⊎◌, List, [], ◌∷◌, length, Some, filter, sym, refl, ap, ◌∙◌, inl, inr, ⊎_elim}
use Rattle.std.specs.List.{range_with_len}
use Rattle.std.proofs.lemmas.Bool.{both_ways, false≢true, eq-eqb, ne_eqb, cases_eq, cases_Bool, and_right, and_left}
use Rattle.std.proofs.lemmas.List.Elements.{filter_agree}
use Rattle.boards.specs.Meaning.{Meaning, landing_at}
use Rattle.linkages.specs.Lists.{Mem, here, there}
use Rattle.records.specs.declared.record.Record.{Record}
use Rattle.records.specs.Records.{before_of, after_of, is_net, is_first, is_last, is_barred, record_at}
use Rattle.drawings.specs.Nets.{after_at, net_at, first_at, last_at, barred_at, cells_where, wired, bars, used, net, last_of, without, Runs, ends, goes}
use Rattle.drawings.specs.Lawful.{Local, Reached, first, next, Lawful}
use Rattle.drawings.specs.Changes.{freed}
use Rattle.drawings.specs.Outcomes.{Frees}
use Rattle.linkages.proofs.Members.{mem_none, mem_one, mem_at, dec_mem}
use Rattle.drawings.proofs.Members.{kept_twice}
use Rattle.drawings.proofs.Said.{some_same, before_net, after_net, first_net, net_unbarred}
use Rattle.drawings.proofs.Locals.{local_free}
use Rattle.drawings.proofs.Changed.{freed_long, freed_inside, freed_outside, run_kept}
use Rattle.drawings.proofs.Cells.{kept_below}
use Rattle.drawings.proofs.Follow.{net_run, Back, at_first, past, run_first, run_next, run_net, net_runs, net_back, nets_apart, not_first, back_on}

pub frees : (xs : List ℕ) (d e : List Record) → e ≡ freed xs d → Frees xs d e
frees xs d e same = record {
  long = ap length same ∙ freed_long xs d;
  inside = λ k i. ap (λ z. record_at z k) same ∙ freed_inside xs d k i;
  outside = λ k n. ap (λ z. record_at z k) same ∙ freed_outside xs d k n;
}

-- a net outside is the same
pub net_outside : (d e : List Record) (xs : List ℕ) (w : ℕ) → Frees xs d e → Runs d w (net d w) → ((k : ℕ) → Mem k (net d w) → Mem k xs → ⊥) → net e w ≡ net d w
net_outside d e xs w F r away = net_run (run_kept e r (λ k i. F.outside k (away k i)))

-- ---- a set of cells that nets neither enter nor leave

module _ (m : Meaning) (d e : List Record) (xs : List ℕ) (L : (c : ℕ) → Local m d c) (F : Frees xs d e)
    (onto : (s t : ℕ) → Mem s xs → after_at d s ≡ Some t → Mem t xs) (back : (s t : ℕ) → Mem t xs → after_at d s ≡ Some t → Mem s xs) where
  off_local : (k : ℕ) → (Mem k xs → ⊥) → Local m e k
  off_local k n =
      let same = F.outside k n in
      record {
        first_is_pad = λ h. (L k).first_is_pad (sym (ap is_first same) ∙ h);
        last_is_landing = λ h. (L k).last_is_landing (sym (ap is_last same) ∙ h);
        landing_is_last = λ h l. ap is_last same ∙ (L k).landing_is_last (sym (ap is_net same) ∙ h) l;
        after_is_outlet = λ t h. (L k).after_is_outlet t (sym (ap after_of same) ∙ h);
        after_names_back = λ t h.
            let q = sym (ap after_of same) ∙ h in
            ap before_of (F.outside t (λ i. n (back k t i q))) ∙ (L k).after_names_back t q;
        before_names_on = λ s h.
            let q = (L k).before_names_on s (sym (ap before_of same) ∙ h) in
            ap after_of (F.outside s (λ i. n (onto s k i q))) ∙ q;
      }

  pub free_local : (k : ℕ) → Local m e k
  free_local k = go (dec_mem k xs)
    where
      go : Dec (Mem k xs) → Local m e k
      go (yes i) = local_free m e k (F.inside k i)
      go (no n) = off_local k n

  off_reached : {k : ℕ} → Reached d k → (Mem k xs → ⊥) → Reached e k
  off_reached (first {c = c} p) n = first (ap is_first (F.outside c n) ∙ p)
  off_reached (next {s = s} {c = c} r q) n =
      let away = λ (i : Mem s xs). n (onto s c i q) in next (off_reached r away) (ap after_of (F.outside s away) ∙ q)

  -- if all net cells outside are reached, what is left is lawful
  pub free_lawful : length d ≡ m.cells → ((k : ℕ) → (Mem k xs → ⊥) → net_at d k ≡ true → Reached d k) → Lawful m e
  free_lawful long r = record { one_each = F.long ∙ long; local = free_local; reached = λ k h. go k h (dec_mem k xs) }
    where
      go : (k : ℕ) → net_at e k ≡ true → Dec (Mem k xs) → Reached e k
      go k h (yes i) = absurd (false≢true (sym (ap is_net (F.inside k i)) ∙ h))
      go k h (no n) = off_reached (r k n (sym (ap is_net (F.outside k n)) ∙ h)) n

-- ---- cells that pass a test, in two drawings of one length

pub cells_same : (d e : List Record) (p q : ℕ → Bool) → length e ≡ length d → ((k : ℕ) → p k ≡ q k) → cells_where e p ≡ cells_where d q
cells_same d e p q long f = ap (λ n. filter p (range_with_len 0 n)) long ∙ filter_agree p q f (range_with_len 0 (length d))

pub cells_without : (d e : List Record) (p q : ℕ → Bool) (c : ℕ) → length e ≡ length d → ((k : ℕ) → p k ≡ (q k && not (eqb k c))) →
    cells_where e p ≡ without c (cells_where d q)
cells_without d e p q c long f = cells_same d e p (λ k. q k && not (eqb k c)) long f ∙ sym (kept_twice (λ x. not (eqb x c)) q (range_with_len 0 (length d)))

and_not_same : (b : Bool) (k c : ℕ) → k ≡ c → (b && not (eqb k c)) ≡ false
and_not_same b k c e = and_right b (not (eqb k c)) (ap not (eq-eqb k c e))

and_not_other : (b : Bool) (k c : ℕ) → (k ≡ c → ⊥) → (b && not (eqb k c)) ≡ b
and_not_other true k c n = ap not (ne_eqb k c n)
and_not_other false k c n = refl

-- ---- the last cell of a run

pub run_last_mem : {d : List Record} {c : ℕ} {xs : List ℕ} (a : ℕ) → Runs d c xs → Mem (last_of a xs) xs
run_last_mem a (ends e) = here refl
run_last_mem a (goes {c = c} e r) = there (run_last_mem c r)

pub run_last_at : {d : List Record} {c : ℕ} {xs : List ℕ} (a : ℕ) → Runs d c xs → last_at d (last_of a xs) ≡ true
run_last_at a (ends e) = e
run_last_at a (goes {c = c} e r) = run_last_at c r

pub run_last_only : {d : List Record} {c k : ℕ} {xs : List ℕ} (a : ℕ) → Runs d c xs → Mem k xs → last_at d k ≡ true → k ≡ last_of a xs
run_last_only a (ends e) (here f) h = f
run_last_only a (ends e) (there i) h = absurd (mem_none i)
run_last_only {d} a (goes {c = c} {t = t} e r) (here f) h = absurd (both_ways (last_at d c) (after_net (record_at d c) t e).1 (sym (ap (last_at d) f) ∙ h))
run_last_only a (goes {c = c} e r) (there i) h = run_last_only c r i h

-- ---- a whole net

module _ (m : Meaning) (d e : List Record) (c : ℕ) (W : Lawful m d) (p : first_at d c ≡ true) (F : Frees (net d c) d e) where
  run : Runs d c (net d c)
  run = net_runs m d W.local c p

  onto : (s t : ℕ) → Mem s (net d c) → after_at d s ≡ Some t → Mem t (net d c)
  onto s t i q = run_next run i q

  back : (s t : ℕ) → Mem t (net d c) → after_at d s ≡ Some t → Mem s (net d c)
  back s t i q = go (net_back m d W.local c t p i).1
    where
      go : {ys : List ℕ} → Back d c t ys → Mem s (net d c)
      go (at_first f h) = absurd (not_first m d W.local s t q h)
      go (past {s = u} B r) = mem_at (some_same ((W.local s).after_names_back t q) ((W.local u).after_names_back t r)) (back_on m d W.local B)

  pub lift_lawful : Lawful m e
  lift_lawful = free_lawful m d e (net d c) W.local F onto back W.one_each (λ k n. W.reached k)

  pub lift_wired : wired e ≡ without c (wired d)
  lift_wired = cells_without d e (first_at e) (first_at d) c F.long (λ k. go k (dec_mem k (net d c)) (cases_eq k c))
    where
      go : (k : ℕ) → Dec (Mem k (net d c)) → (k ≡ c) ⊎ (k ≡ c → ⊥) → first_at e k ≡ (first_at d k && not (eqb k c))
      go k (yes i) (inl f) = ap is_first (F.inside k i) ∙ sym (and_not_same (first_at d k) k c f)
      go k (yes i) (inr n) =
          ap is_first (F.inside k i) ∙
          sym (and_left (first_at d k) (not (eqb k c)) (⊎_elim (λ h. absurd (n (nets_apart m d W.local k c k h p (run_first (net_runs m d W.local k h)) i))) (λ h. h) (cases_Bool (first_at d k))))
      go k (no j) (inl f) = absurd (j (mem_at f (run_first run)))
      go k (no j) (inr n) = ap is_first (F.outside k j) ∙ sym (and_not_other (first_at d k) k c n)

  pub lift_bars : bars e ≡ bars d
  lift_bars = cells_same d e (barred_at e) (barred_at d) F.long (λ k. go k (dec_mem k (net d c)))
    where
      go : (k : ℕ) → Dec (Mem k (net d c)) → barred_at e k ≡ barred_at d k
      go k (yes i) = ap is_barred (F.inside k i) ∙ sym (net_unbarred (record_at d k) (run_net run i))
      go k (no n) = ap is_barred (F.outside k n)

  pub lift_used : used m e ≡ without (last_of c (net d c)) (used m d)
  lift_used = cells_without d e (λ k. net_at e k && landing_at m k) (λ k. net_at d k && landing_at m k) (last_of c (net d c)) F.long
      (λ k. go k (dec_mem k (net d c)) (cases_eq k (last_of c (net d c))))
    where
      go : (k : ℕ) → Dec (Mem k (net d c)) → (k ≡ last_of c (net d c)) ⊎ (k ≡ last_of c (net d c) → ⊥) →
          (net_at e k && landing_at m k) ≡ ((net_at d k && landing_at m k) && not (eqb k (last_of c (net d c))))
      go k (yes i) (inl f) = ap (λ b. b && landing_at m k) (ap is_net (F.inside k i)) ∙ sym (and_not_same (net_at d k && landing_at m k) k (last_of c (net d c)) f)
      go k (yes i) (inr n) =
          ap (λ b. b && landing_at m k) (ap is_net (F.inside k i)) ∙
          sym (and_left (net_at d k && landing_at m k) (not (eqb k (last_of c (net d c)))) (and_right (net_at d k) (landing_at m k)
          (⊎_elim (λ h. absurd (n (run_last_only c run i ((W.local k).landing_is_last (run_net run i) h)))) (λ h. h) (cases_Bool (landing_at m k)))))
      go k (no j) (inl f) = absurd (j (mem_at f (run_last_mem c run)))
      go k (no j) (inr n) = ap (λ b. b && landing_at m k) (ap is_net (F.outside k j)) ∙ sym (and_not_other (net_at d k && landing_at m k) k (last_of c (net d c)) n)

  pub lift_nets : (w : ℕ) → Mem w (wired e) → net e w ≡ net d w
  lift_nets w i =
      let h = kept_below (first_at e) (length e) w i in
      let off = λ (k : Mem w (net d c)). false≢true (sym (ap is_first (F.inside w k)) ∙ h.1) in
      let q = sym (ap is_first (F.outside w off)) ∙ h.1 in
      net_outside d e (net d c) w F (net_runs m d W.local w q)
      (λ k j l. off (mem_at (nets_apart m d W.local w c k q p j l) (run_first run)))

-- ---- a bar

module _ (m : Meaning) (d e : List Record) (c : ℕ) (W : Lawful m d) (b : barred_at d c ≡ true) (F : Frees (c ∷ []) d e) where
  off_net : {k : ℕ} → Mem k (c ∷ []) → net_at d k ≡ true → ⊥
  off_net {k} i h = both_ways (barred_at d k) (net_unbarred (record_at d k) h) (ap (barred_at d) (mem_one i) ∙ b)

  pub clear_lawful : Lawful m e
  clear_lawful = free_lawful m d e (c ∷ []) W.local F
      (λ s t i q. absurd (off_net i (after_net (record_at d s) t q).0))
      (λ s t i q. absurd (off_net i (before_net (record_at d t) s ((W.local s).after_names_back t q)).0))
      W.one_each (λ k n. W.reached k)

  pub clear_wired : wired e ≡ wired d
  clear_wired = cells_same d e (first_at e) (first_at d) F.long (λ k. go k (dec_mem k (c ∷ [])))
    where
      go : (k : ℕ) → Dec (Mem k (c ∷ [])) → first_at e k ≡ first_at d k
      go k (yes i) = ap is_first (F.inside k i) ∙ sym (⊎_elim (λ h. absurd (off_net i (first_net (record_at d k) h))) (λ h. h) (cases_Bool (first_at d k)))
      go k (no n) = ap is_first (F.outside k n)

  pub clear_used : used m e ≡ used m d
  clear_used = cells_same d e (λ k. net_at e k && landing_at m k) (λ k. net_at d k && landing_at m k) F.long
      (λ k. ap (λ b. b && landing_at m k) (go k (dec_mem k (c ∷ []))))
    where
      go : (k : ℕ) → Dec (Mem k (c ∷ [])) → net_at e k ≡ net_at d k
      go k (yes i) = ap is_net (F.inside k i) ∙ sym (⊎_elim (λ h. absurd (off_net i h)) (λ h. h) (cases_Bool (net_at d k)))
      go k (no n) = ap is_net (F.outside k n)

  pub clear_bars : bars e ≡ without c (bars d)
  clear_bars = cells_without d e (barred_at e) (barred_at d) c F.long (λ k. go k (cases_eq k c))
    where
      go : (k : ℕ) → (k ≡ c) ⊎ (k ≡ c → ⊥) → barred_at e k ≡ (barred_at d k && not (eqb k c))
      go k (inl f) = ap is_barred (F.inside k (here f)) ∙ sym (and_not_same (barred_at d k) k c f)
      go k (inr n) = ap is_barred (F.outside k (λ i. n (mem_one i))) ∙ sym (and_not_other (barred_at d k) k c n)

  pub clear_nets : (w : ℕ) → Mem w (wired d) → net e w ≡ net d w
  clear_nets w i =
      let r = net_runs m d W.local w (kept_below (first_at d) (length d) w i).1 in
      net_outside d e (c ∷ []) w F r (λ k j l. off_net l (run_net r j))
