-- A drawing while a trail is taken back: every local rule holds but for some first cells that are no pads, the heads, and some
-- last cells that are no landings, the tails.
use Rattle.std.proofs.Common.{◌≡◌, ℕ, true, false, ◌||◌, eqb, ◌⊎◌, List, [], ◌∷◌, length, Some, None, sym, refl, ap, ◌∙◌, subst, inl, inr, ⊎_elim}
use Rattle.std.proofs.lemmas.Bool.{cases_eq, cases_Bool, both_ways, false≢true}
use Rattle.boards.specs.Meaning.{Meaning, outlets_of, landing_at}
use Rattle.linkages.specs.Lists.{Mem, here, there}
use Rattle.linkages.proofs.Members.{mem_none, mem_one, mem_cases, mem_at}
use Rattle.records.specs.declared.record.Record.{Record}
use Rattle.records.specs.declared.record.Record.TheVariants.{Free, Barred, Net}
use Rattle.records.specs.Records.{before_of, after_of, is_net, is_barred, is_first, is_last, record_at}
use Rattle.drawings.specs.Nets.{before_at, after_at, net_at, first_at, last_at, barred_at}
use Rattle.drawings.proofs.Said.{none_not_some, some_same, after_net, last_net, first_net, net_unbarred}
use Rattle.rewiring.proofs.Relinks.{Relinked}

pub record Stage (m : Meaning) (d : List Record) (z : ℕ) (e : List Record) (heads tails : List ℕ) : Type 0 where
  pub long : length e ≡ length d
  pub bars : (c : ℕ) → barred_at e c ≡ barred_at d c
  -- the first cells are the old ones and the heads
  pub firsts : (c : ℕ) → first_at e c ≡ true → Mem c heads ⊎ (first_at d c ≡ true)
  pub kept : (c : ℕ) → first_at d c ≡ true → first_at e c ≡ true
  pub first : (c : ℕ) → Mem c heads → first_at e c ≡ true
  pub new : (c : ℕ) → Mem c heads → first_at d c ≡ false
  -- the last cells are landings, or tails, which are not
  pub lasts : (c : ℕ) → last_at e c ≡ true → Mem c tails ⊎ (landing_at m c ≡ true)
  pub last : (c : ℕ) → Mem c tails → last_at e c ≡ true
  pub no_landing : (c : ℕ) → Mem c tails → landing_at m c ≡ false
  pub landing_is_last : (c : ℕ) → net_at e c ≡ true → landing_at m c ≡ true → last_at e c ≡ true
  pub outlet : (c t : ℕ) → after_at e c ≡ Some t → Mem t (outlets_of m c)
  pub names_back : (c t : ℕ) → after_at e c ≡ Some t → before_at e t ≡ Some c
  pub names_on : (c s : ℕ) → before_at e c ≡ Some s → after_at e s ≡ Some c
  -- the landings on nets are the old ones and z
  pub landings : (c : ℕ) → landing_at m c ≡ true → net_at e c ≡ (net_at d c || eqb c z)

first_none : (r : Record) → is_first r ≡ true → before_of r ≡ None
first_none Free h = refl
first_none Barred h = refl
first_none (Net None a) h = refl
first_none (Net (Some b) a) h = absurd (false≢true h)

-- ---- a net is cut

module _ (m : Meaning) (d : List Record) (z : ℕ) (e f : List Record) (s t u : ℕ) (S : Stage m d z e (t ∷ []) [])
    (R : Relinked e f u s None None) (q : after_at e u ≡ Some s) (new : first_at d s ≡ false) where
  cut_tail : landing_at m u ≡ false
  cut_tail = ⊎_elim
      (λ h. let n = after_net (record_at e u) s q in absurd (both_ways (last_at e u) n.1 (S.landing_is_last u n.0 h)))
      (λ h. h)
      (cases_Bool (landing_at m u))

  pub cut : Stage m d z f (s ∷ t ∷ []) (u ∷ [])
  cut = record {
    long = R.long ∙ S.long;
    bars = λ c. R.barred c ∙ S.bars c;
    firsts = λ c h. ⊎_elim
        (λ (g : c ≡ s). inl (here g))
        (λ n. elim (S.firsts c (sym (R.firsts c n) ∙ h)) [ inl i ↦ inl (there i) | inr k ↦ inr k ])
        (cases_eq c s);
    kept = λ c h. ⊎_elim
        (λ (g : c ≡ s). absurd (both_ways (first_at d c) (ap (first_at d) g ∙ new) h))
        (λ n. R.firsts c n ∙ S.kept c h)
        (cases_eq c s);
    first = λ c i. ⊎_elim
        (λ (g : c ≡ s). ap (first_at f) g ∙ R.first_is)
        (λ n. R.firsts c n ∙ S.first c (elim (mem_cases i) [ inl g ↦ absurd (n g) | inr k ↦ k ]))
        (cases_eq c s);
    new = λ c i. elim (mem_cases i) [ inl g ↦ ap (first_at d) g ∙ new | inr k ↦ S.new c k ];
    lasts = λ c h. ⊎_elim
        (λ (g : c ≡ u). inl (here g))
        (λ n. elim (S.lasts c (sym (R.lasts c n) ∙ h)) [ inl i ↦ absurd (mem_none i) | inr k ↦ inr k ])
        (cases_eq c u);
    last = λ c i. ap (last_at f) (mem_one i) ∙ R.last_is;
    no_landing = λ c i. ap (landing_at m) (mem_one i) ∙ cut_tail;
    landing_is_last = λ c h l. ⊎_elim
        (λ (g : c ≡ u). ap (last_at f) g ∙ R.last_is)
        (λ n. R.lasts c n ∙ S.landing_is_last c (sym (R.nets c) ∙ h) l)
        (cases_eq c u);
    outlet = λ c x h. ⊎_elim
        (λ (g : c ≡ u). absurd (none_not_some (sym R.after_is ∙ sym (ap (after_at f) g) ∙ h)))
        (λ n. S.outlet c x (sym (R.afters c n) ∙ h))
        (cases_eq c u);
    names_back = λ c x h. ⊎_elim
        (λ (g : c ≡ u). absurd (none_not_some (sym R.after_is ∙ sym (ap (after_at f) g) ∙ h)))
        (λ n. let k = S.names_back c x (sym (R.afters c n) ∙ h) in
        R.befores x (λ g. n (some_same (sym (ap (before_at e) g) ∙ k) (S.names_back u s q))) ∙ k)
        (cases_eq c u);
    names_on = λ c x h. ⊎_elim
        (λ (g : c ≡ s). absurd (none_not_some (sym R.before_is ∙ sym (ap (before_at f) g) ∙ h)))
        (λ n. let k = S.names_on c x (sym (R.befores c n) ∙ h) in
        R.afters x (λ g. n (some_same (sym (ap (after_at e) g) ∙ k) q)) ∙ k)
        (cases_eq c s);
    landings = λ c l. R.nets c ∙ S.landings c l;
  }

-- ---- a tail goes in front of a head

module _ (m : Meaning) (d : List Record) (z : ℕ) (e f : List Record) (s t u : ℕ) (S : Stage m d z e (s ∷ t ∷ []) (u ∷ []))
    (R : Relinked e f u t (Some t) (Some u)) (o : Mem t (outlets_of m u)) (ne : s ≡ t → ⊥) where
  pub join : Stage m d z f (s ∷ []) []
  join = record {
    long = R.long ∙ S.long;
    bars = λ c. R.barred c ∙ S.bars c;
    firsts = λ c h. ⊎_elim
        (λ (g : c ≡ t). absurd (false≢true (sym R.first_is ∙ sym (ap (first_at f) g) ∙ h)))
        (λ n. elim (S.firsts c (sym (R.firsts c n) ∙ h)) [
          | inl i ↦ elim (mem_cases i) [ inl g ↦ inl (here g) | inr k ↦ absurd (n (mem_one k)) ]
          | inr k ↦ inr k
        ])
        (cases_eq c t);
    kept = λ c h. ⊎_elim
        (λ (g : c ≡ t). absurd (both_ways (first_at d c) (S.new c (there (here g))) h))
        (λ n. R.firsts c n ∙ S.kept c h)
        (cases_eq c t);
    first = λ c i. R.firsts c (λ g. ne (sym (mem_one i) ∙ g)) ∙ S.first c (here (mem_one i));
    new = λ c i. S.new c (here (mem_one i));
    lasts = λ c h. ⊎_elim
        (λ (g : c ≡ u). absurd (false≢true (sym R.last_is ∙ sym (ap (last_at f) g) ∙ h)))
        (λ n. elim (S.lasts c (sym (R.lasts c n) ∙ h)) [ inl i ↦ absurd (n (mem_one i)) | inr k ↦ inr k ])
        (cases_eq c u);
    last = λ c i. absurd (mem_none i);
    no_landing = λ c i. absurd (mem_none i);
    landing_is_last = λ c h l. ⊎_elim
        (λ (g : c ≡ u). absurd (both_ways (landing_at m c) (S.no_landing c (here g)) l))
        (λ n. R.lasts c n ∙ S.landing_is_last c (sym (R.nets c) ∙ h) l)
        (cases_eq c u);
    outlet = λ c x h. ⊎_elim
        (λ (g : c ≡ u). subst (λ k. Mem x (outlets_of m k)) (sym g) (mem_at (some_same (sym (ap (after_at f) g) ∙ h) R.after_is) o))
        (λ n. S.outlet c x (sym (R.afters c n) ∙ h))
        (cases_eq c u);
    names_back = λ c x h. ⊎_elim
        (λ (g : c ≡ u). ap (before_at f) (some_same (sym (ap (after_at f) g) ∙ h) R.after_is) ∙ R.before_is ∙ ap Some (sym g))
        (λ n. let k = S.names_back c x (sym (R.afters c n) ∙ h) in
        R.befores x (λ g. none_not_some (sym (first_none (record_at e t) (S.first t (there (here refl)))) ∙ sym (ap (before_at e) g) ∙ k)) ∙ k)
        (cases_eq c u);
    names_on = λ c x h. ⊎_elim
        (λ (g : c ≡ t). ap (after_at f) (some_same (sym (ap (before_at f) g) ∙ h) R.before_is) ∙ R.after_is ∙ ap Some (sym g))
        (λ n. let k = S.names_on c x (sym (R.befores c n) ∙ h) in
        R.afters x (λ g. none_not_some (sym (last_net (record_at e u) (S.last u (here refl))).1 ∙ sym (ap (after_at e) g) ∙ k)) ∙ k)
        (cases_eq c t);
    landings = λ c l. R.nets c ∙ S.landings c l;
  }

-- ---- a free cell becomes a net by itself

module _ (m : Meaning) (d : List Record) (z : ℕ) (e f : List Record) (s t : ℕ) (S : Stage m d z e (t ∷ []) [])
    (long : length f ≡ length e) (here_is : record_at f s ≡ Net None None) (others : (c : ℕ) → (c ≡ s → ⊥) → record_at f c ≡ record_at e c)
    (free : record_at e s ≡ Free) (dry : landing_at m s ≡ false) (new : first_at d s ≡ false) where
  pub make : Stage m d z f (s ∷ t ∷ []) (s ∷ [])
  make = record {
    long = long ∙ S.long;
    bars = λ c. ⊎_elim
        (λ (g : c ≡ s). ap (barred_at f) g ∙ ap is_barred here_is ∙ sym (ap is_barred free) ∙ sym (ap (barred_at e) g) ∙ S.bars c)
        (λ n. ap is_barred (others c n) ∙ S.bars c)
        (cases_eq c s);
    firsts = λ c h. ⊎_elim
        (λ (g : c ≡ s). inl (here g))
        (λ n. elim (S.firsts c (sym (ap is_first (others c n)) ∙ h)) [ inl i ↦ inl (there i) | inr k ↦ inr k ])
        (cases_eq c s);
    kept = λ c h. ⊎_elim
        (λ (g : c ≡ s). absurd (both_ways (first_at d c) (ap (first_at d) g ∙ new) h))
        (λ n. ap is_first (others c n) ∙ S.kept c h)
        (cases_eq c s);
    first = λ c i. ⊎_elim
        (λ (g : c ≡ s). ap (first_at f) g ∙ ap is_first here_is)
        (λ n. ap is_first (others c n) ∙ S.first c (elim (mem_cases i) [ inl g ↦ absurd (n g) | inr k ↦ k ]))
        (cases_eq c s);
    new = λ c i. elim (mem_cases i) [ inl g ↦ ap (first_at d) g ∙ new | inr k ↦ S.new c k ];
    lasts = λ c h. ⊎_elim
        (λ (g : c ≡ s). inl (here g))
        (λ n. elim (S.lasts c (sym (ap is_last (others c n)) ∙ h)) [ inl i ↦ absurd (mem_none i) | inr k ↦ inr k ])
        (cases_eq c s);
    last = λ c i. ap (last_at f) (mem_one i) ∙ ap is_last here_is;
    no_landing = λ c i. ap (landing_at m) (mem_one i) ∙ dry;
    landing_is_last = λ c h l. ⊎_elim
        (λ (g : c ≡ s). ap (last_at f) g ∙ ap is_last here_is)
        (λ n. ap is_last (others c n) ∙ S.landing_is_last c (sym (ap is_net (others c n)) ∙ h) l)
        (cases_eq c s);
    outlet = λ c x h. ⊎_elim
        (λ (g : c ≡ s). absurd (none_not_some (sym (ap after_of here_is) ∙ sym (ap (after_at f) g) ∙ h)))
        (λ n. S.outlet c x (sym (ap after_of (others c n)) ∙ h))
        (cases_eq c s);
    names_back = λ c x h. ⊎_elim
        (λ (g : c ≡ s). absurd (none_not_some (sym (ap after_of here_is) ∙ sym (ap (after_at f) g) ∙ h)))
        (λ n. let k = S.names_back c x (sym (ap after_of (others c n)) ∙ h) in
        ap before_of (others x (λ g. none_not_some (sym (ap before_of free) ∙ sym (ap (before_at e) g) ∙ k))) ∙ k)
        (cases_eq c s);
    names_on = λ c x h. ⊎_elim
        (λ (g : c ≡ s). absurd (none_not_some (sym (ap before_of here_is) ∙ sym (ap (before_at f) g) ∙ h)))
        (λ n. let k = S.names_on c x (sym (ap before_of (others c n)) ∙ h) in
        ap after_of (others x (λ g. none_not_some (sym (ap after_of free) ∙ sym (ap (after_at e) g) ∙ k))) ∙ k)
        (cases_eq c s);
    landings = λ c l. ap is_net (others c (λ g. both_ways (landing_at m c) (ap (landing_at m) g ∙ dry) l)) ∙ S.landings c l;
  }

-- ---- a head that is a tail is freed

module _ (m : Meaning) (d : List Record) (z : ℕ) (e f : List Record) (s t : ℕ) (S : Stage m d z e (s ∷ t ∷ []) (t ∷ []))
    (long : length f ≡ length e) (free : record_at f t ≡ Free) (others : (c : ℕ) → (c ≡ t → ⊥) → record_at f c ≡ record_at e c)
    (ne : s ≡ t → ⊥) where
  pub drop : Stage m d z f (s ∷ []) []
  drop = record {
    long = long ∙ S.long;
    bars = λ c. ⊎_elim
        (λ (g : c ≡ t). ap (barred_at f) g ∙ ap is_barred free ∙
        sym (net_unbarred (record_at e c) (first_net (record_at e c) (S.first c (there (here g))))) ∙ S.bars c)
        (λ n. ap is_barred (others c n) ∙ S.bars c)
        (cases_eq c t);
    firsts = λ c h. ⊎_elim
        (λ (g : c ≡ t). absurd (false≢true (sym (ap is_first free) ∙ sym (ap (first_at f) g) ∙ h)))
        (λ n. elim (S.firsts c (sym (ap is_first (others c n)) ∙ h)) [
          | inl i ↦ elim (mem_cases i) [ inl g ↦ inl (here g) | inr k ↦ absurd (n (mem_one k)) ]
          | inr k ↦ inr k
        ])
        (cases_eq c t);
    kept = λ c h. ⊎_elim
        (λ (g : c ≡ t). absurd (both_ways (first_at d c) (S.new c (there (here g))) h))
        (λ n. ap is_first (others c n) ∙ S.kept c h)
        (cases_eq c t);
    first = λ c i. ap is_first (others c (λ g. ne (sym (mem_one i) ∙ g))) ∙ S.first c (here (mem_one i));
    new = λ c i. S.new c (here (mem_one i));
    lasts = λ c h. ⊎_elim
        (λ (g : c ≡ t). absurd (false≢true (sym (ap is_last free) ∙ sym (ap (last_at f) g) ∙ h)))
        (λ n. elim (S.lasts c (sym (ap is_last (others c n)) ∙ h)) [ inl i ↦ absurd (n (mem_one i)) | inr k ↦ inr k ])
        (cases_eq c t);
    last = λ c i. absurd (mem_none i);
    no_landing = λ c i. absurd (mem_none i);
    landing_is_last = λ c h l. ⊎_elim
        (λ (g : c ≡ t). absurd (both_ways (landing_at m c) (S.no_landing c (here g)) l))
        (λ n. ap is_last (others c n) ∙ S.landing_is_last c (sym (ap is_net (others c n)) ∙ h) l)
        (cases_eq c t);
    outlet = λ c x h. ⊎_elim
        (λ (g : c ≡ t). absurd (none_not_some (sym (ap after_of free) ∙ sym (ap (after_at f) g) ∙ h)))
        (λ n. S.outlet c x (sym (ap after_of (others c n)) ∙ h))
        (cases_eq c t);
    names_back = λ c x h. ⊎_elim
        (λ (g : c ≡ t). absurd (none_not_some (sym (ap after_of free) ∙ sym (ap (after_at f) g) ∙ h)))
        (λ n. let k = S.names_back c x (sym (ap after_of (others c n)) ∙ h) in
        ap before_of (others x (λ g. none_not_some (sym (first_none (record_at e t) (S.first t (there (here refl)))) ∙ sym (ap (before_at e) g) ∙ k))) ∙ k)
        (cases_eq c t);
    names_on = λ c x h. ⊎_elim
        (λ (g : c ≡ t). absurd (none_not_some (sym (ap before_of free) ∙ sym (ap (before_at f) g) ∙ h)))
        (λ n. let k = S.names_on c x (sym (ap before_of (others c n)) ∙ h) in
        ap after_of (others x (λ g. none_not_some (sym (last_net (record_at e t) (S.last t (here refl))).1 ∙ sym (ap (after_at e) g) ∙ k))) ∙ k)
        (cases_eq c t);
    landings = λ c l. ap is_net (others c (λ g. both_ways (landing_at m c) (S.no_landing c (here g)) l)) ∙ S.landings c l;
  }
