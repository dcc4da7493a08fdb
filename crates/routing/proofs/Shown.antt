-- What a search that found no way shows.
use Rattle.std.proofs.Common.{◌≡◌, ℕ, zero, suc, ◌+◌, ◌<◌, ◌≤◌, Bool, true, false, cond, ◌||◌, eqb, List, ◌∷◌, length, Some, None, filter, sym, refl, ap, ◌∙◌, subst, ⊎_elim, arith}
use Rattle.std.specs.List.{range_with_len}
use Rattle.std.proofs.lemmas.Bool.{both_ways, cases_Bool, and_parts, and_from, or_cases, or_left, or_right, eqb-true, eq-eqb, not-true, not_from_false, false≢true}
use Rattle.boards.specs.Meaning.{Meaning}
use Rattle.linkages.specs.Lists.{Mem, here, there, Next}
use Rattle.linkages.specs.Nets.{pads_of, Shows}
use Rattle.linkages.proofs.Members.{mem_none, mem_cases, mem_of_kept}
use Rattle.linkages.proofs.Nexts.{next_left}
use Rattle.linkages.proofs.NetLists.{same_net}
use Rattle.records.specs.declared.record.Record.{Record}
use Rattle.records.specs.declared.record.Record.TheVariants.{Free, Barred, Net}
use Rattle.records.specs.Records.{after_of, is_net, record_at}
use Rattle.drawings.specs.Nets.{first_at, bars, nets}
use Rattle.drawings.specs.Lawful.{Lawful}
use Rattle.drawings.proofs.Cells.{kept_below, below_kept, distinct_kept_below}
use Rattle.drawings.proofs.Said.{none_not_some, some_same, net_inside}
use Rattle.drawings.proofs.Linking.{linked}
use Rattle.routing.specs.Searches.{was_entered}
use Rattle.routing.specs.Showing.{shows_pad, no_further, shows_cell, shown_pads, shown_cells, Rising}

-- ---- rising

counting_above : (a n c : ℕ) → Mem c (range_with_len a n) → a ≤ c
counting_above a zero c k = absurd (mem_none k)
counting_above a (suc n) c (here e) = omega arith
counting_above a (suc n) c (there k) = let h = counting_above (a + 1) n c k in omega arith

rising_counting : (p : ℕ → Bool) (a n : ℕ) → Rising (filter p (range_with_len a n))
rising_counting p a zero = tt
rising_counting p a (suc n) = go (p a) (rising_counting p (a + 1) n)
  where
    go : (b : Bool) → Rising (filter p (range_with_len (a + 1) n)) → Rising (cond b (a ∷ filter p (range_with_len (a + 1) n)) (filter p (range_with_len (a + 1) n)))
    go true h = (λ c k. let l = counting_above (a + 1) n c (mem_of_kept p c (range_with_len (a + 1) n) k).0 in omega arith, h)
    go false h = h

pub rising_below : (p : ℕ → Bool) (n : ℕ) → Rising (filter p (range_with_len 0 n))
rising_below p n = rising_counting p 0 n

-- ---- the last entered cell, by its record

further_net : (E : List ℕ) (r : Record) → no_further E r ≡ true → is_net r ≡ true
further_net E Free e = absurd (false≢true e)
further_net E Barred e = absurd (false≢true e)
further_net E (Net b a) e = refl

further_none : (E : List ℕ) (r : Record) (t : ℕ) → no_further E r ≡ true → after_of r ≡ Some t → was_entered E t ≡ false
further_none E Free t e f = absurd (false≢true e)
further_none E Barred t e f = absurd (false≢true e)
further_none E (Net b None) t e f = absurd (none_not_some f)
further_none E (Net b (Some v)) t e f = ap (was_entered E) (some_same f refl) ∙ not-true (was_entered E v) e

further_from : (E : List ℕ) (r : Record) → is_net r ≡ true → ((t : ℕ) → after_of r ≡ Some t → was_entered E t ≡ true → ⊥) → no_further E r ≡ true
further_from E Free n f = absurd (false≢true n)
further_from E Barred n f = absurd (false≢true n)
further_from E (Net b None) n f = refl
further_from E (Net b (Some t)) n f = ⊎_elim
    (λ e. absurd (f t refl e))
    (λ e. not_from_false (was_entered E t) e)
    (cases_Bool (was_entered E t))

module _ (m : Meaning) (d : List Record) (W : Lawful m d) (p : ℕ) (l : p < length d) (E : List ℕ) where
  pad_cell : (c : ℕ) → Mem c (p ∷ pads_of (nets d)) → (c < length d) × ((eqb c p || first_at d c) ≡ true)
  pad_cell c k = ⊎_elim
      (λ (e : c ≡ p). (subst (λ v. v < length d) (sym e) l, or_left (eqb c p) (first_at d c) (eq-eqb c p e)))
      (λ i. let h = kept_below (first_at d) (length d) c (subst (Mem c) (linked m d W).pads i) in (h.0, or_right (eqb c p) (first_at d c) h.1))
      (mem_cases k)

  pad_back : (c : ℕ) → c < length d → (eqb c p || first_at d c) ≡ true → Mem c (p ∷ pads_of (nets d))
  pad_back c h e = ⊎_elim
      (λ q. here (eqb-true c p q))
      (λ q. there (subst (Mem c) (sym (linked m d W).pads) (below_kept (first_at d) (length d) c h q)))
      (or_cases (eqb c p) (first_at d c) e)

  pub shows : Shows (nets d) p (was_entered E) (shown_pads d E p) (shown_cells d E)
  shows = record {
    pads_differ = distinct_kept_below (shows_pad d E p) (length d);
    cells_differ = distinct_kept_below (shows_cell d E) (length d);
    pads_only = λ c k.
        let h = kept_below (shows_pad d E p) (length d) c k in
        let q = and_parts (was_entered E c) (eqb c p || first_at d c) h.1 in
        (pad_back c h.0 q.1, q.0);
    pads_all = λ c k e. let h = pad_cell c k in
        below_kept (shows_pad d E p) (length d) c h.0 (and_from (was_entered E c) (eqb c p || first_at d c) e h.1);
    cells_only = λ c k.
        let h = kept_below (shows_cell d E) (length d) c k in
        let q = and_parts (was_entered E c) (no_further E (record_at d c)) h.1 in
        let o = (linked m d W).on_a_net c (further_net E (record_at d c) q.1) in
        record {
          net = o.0;
          laid = o.1;
          on = o.2;
          came = q.0;
          no_further = λ t n e. both_ways (was_entered E t)
              (further_none E (record_at d c) t q.1 ((linked m d W).next_is_after c t o.0 o.1 n)) e;
        };
    cells_all = λ c k.
        let on = (linked m d W).net_cells c k.net k.laid k.on in
        below_kept (shows_cell d E) (length d) c (net_inside d c on) (and_from (was_entered E c) (no_further E (record_at d c)) k.came
        (further_from E (record_at d c) on (λ t f e.
        let n = (linked m d W).after_is_next c t f in
        let same = same_net m (bars d) (nets d) (linked m d W).wiring n.1 k.laid (next_left n.2) k.on in
        k.no_further t (subst (Next c t) same n.2) e)));
  }
