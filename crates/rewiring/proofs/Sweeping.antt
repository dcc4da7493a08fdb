-- What is left when the net cells that no net reaches are freed.
use Rattle.std.proofs.Common.{◌≡◌, ℕ, ◌+◌, Bool, true, false, not, ◌&&◌, eqb, List, [], ◌∷◌, length, get_or, set, filter, sym, ap, ◌∙◌, ⊎_elim, arith}
use Rattle.std.specs.List.{range_with_len}
use Rattle.std.proofs.lemmas.List.{length-set, set-get_or}
use Rattle.std.proofs.lemmas.Bool.{cases_eq, cases_Bool, both_ways, and_parts, and_from, ne_eqb, eqb-false, not-true, not_from_false}
use Rattle.boards.specs.Meaning.{Meaning, landing_at}
use Rattle.linkages.specs.Lists.{Mem}
use Rattle.records.specs.declared.record.Record.{Record}
use Rattle.records.specs.declared.record.Record.TheVariants.{Free}
use Rattle.records.specs.Records.{is_net, record_at}
use Rattle.drawings.specs.Nets.{net_at, Runs, ends}
use Rattle.drawings.specs.Lawful.{Local, Reached}
use Rattle.drawings.specs.Outcomes.{Frees}
use Rattle.drawings.proofs.Said.{net_inside}
use Rattle.drawings.proofs.Cells.{kept_below, below_kept}
use Rattle.drawings.proofs.Changed.{set_free, set_free_stays, set_other}
use Rattle.drawings.proofs.Follow.{run_reached}
use Rattle.drawings.proofs.Sweeping.{swept_lawful, swept_wired, swept_bars, swept_used}
use Rattle.rewiring.specs.Marks.{MarksReached, is_stray, strays, Swept}

-- a net that lies on a landing ends there, so it is reached
pub landing_reached : (m : Meaning) (d : List Record) → ((c : ℕ) → Local m d c) → (c : ℕ) → net_at d c ≡ true → landing_at m c ≡ true → Reached d c
landing_reached m d L c n l = let r : Runs d c (c ∷ []) = ends ((L c).landing_is_last n l) in run_reached m d L r

module _ (d : List Record) (marks : List ℕ) (M : MarksReached d marks) where
  stray_parts : (c : ℕ) → Mem c (strays d marks) → (net_at d c ≡ true) × (not (eqb (get_or marks c 0) 1) ≡ true)
  stray_parts c i = and_parts (net_at d c) (not (eqb (get_or marks c 0) 1)) (kept_below (is_stray d marks) (length d) c i).1

  stray_away : (c : ℕ) → Mem c (strays d marks) → Reached d c → ⊥
  stray_away c i r = eqb-false (get_or marks c 0) 1 (not-true (eqb (get_or marks c 0) 1) (stray_parts c i).1) (M.whole c r)

  left_reached : (c : ℕ) → (Mem c (strays d marks) → ⊥) → net_at d c ≡ true → Reached d c
  left_reached c n h = ⊎_elim
      (λ g. M.sound c g)
      (λ g. absurd (n (below_kept (is_stray d marks) (length d) c (net_inside d c h)
      (and_from (net_at d c) (not (eqb (get_or marks c 0) 1)) h (not_from_false (eqb (get_or marks c 0) 1) (ne_eqb (get_or marks c 0) 1 g))))))
      (cases_eq (get_or marks c 0) 1)

  pub swept : (m : Meaning) (e : List Record) → ((c : ℕ) → Local m d c) → Frees (strays d marks) d e → length d ≡ m.cells → Swept m d e
  swept m e L F long =
      let xs = strays d marks in
      let on = λ (c : ℕ) (i : Mem c xs). (stray_parts c i).0 in
      record {
        lawful = swept_lawful m d e xs L F on stray_away left_reached long;
        same_wired = swept_wired m d e xs L F on stray_away left_reached;
        same_bars = swept_bars m d e xs L F on stray_away left_reached;
        same_used = swept_used m d e xs L F on stray_away left_reached;
      }

-- ---- freeing the cells that pass a test, one by one

module _ (p : ℕ → Bool) (d e : List Record) (i : ℕ) (F : Frees (filter p (range_with_len 0 i)) d e) where
  -- the next cell is as it was
  pub next_same : record_at e i ≡ record_at d i
  next_same = F.outside i (λ k. let z : ⊥ = omega (arith, (kept_below p i i k).0) in z)

  below : (k : ℕ) → Mem k (filter p (range_with_len 0 (i + 1))) → (k ≡ i → ⊥) → Mem k (filter p (range_with_len 0 i))
  below k j n = let h = kept_below p (i + 1) k j in below_kept p i k (omega (arith, h.0)) h.1

  above : (k : ℕ) → Mem k (filter p (range_with_len 0 i)) → Mem k (filter p (range_with_len 0 (i + 1)))
  above k j = let h = kept_below p i k j in below_kept p (i + 1) k (omega (arith, h.0)) h.1

  pub free_next : p i ≡ true → Frees (filter p (range_with_len 0 (i + 1))) d (set e i Free)
  free_next t = record {
    long = length-set e i Free ∙ F.long;
    inside = λ k j. ⊎_elim
        (λ (g : k ≡ i). ap (record_at (set e i Free)) g ∙ set_free e i)
        (λ n. set_free_stays e i k (F.inside k (below k j n)))
        (cases_eq k i);
    outside = λ k n.
        set_other e i k Free (λ g. n (below_kept p (i + 1) k (omega arith) (ap p g ∙ t))) ∙ F.outside k (λ j. n (above k j));
  }

  pub pass_next : p i ≡ false → Frees (filter p (range_with_len 0 (i + 1))) d e
  pass_next f = record {
    long = F.long;
    inside = λ k j. F.inside k (below k j (λ g. both_ways (p k) (ap p g ∙ f) (kept_below p (i + 1) k j).1));
    outside = λ k n. F.outside k (λ j. n (above k j));
  }

-- ---- freeing the strays one by one

module _ (marks : List ℕ) (d e : List Record) (i : ℕ) (F : Frees (filter (is_stray d marks) (range_with_len 0 i)) d e) where
  -- whether the next cell is a stray is as it was
  stray_same : is_stray d marks i ≡ is_stray e marks i
  stray_same = ap (λ r. is_net r && not (eqb (get_or marks i 0) 1)) (sym (next_same (is_stray d marks) d e i F))

  pub stray_freed : net_at e i ≡ true → eqb (get_or marks i 0) 1 ≡ false → Frees (filter (is_stray d marks) (range_with_len 0 (i + 1))) d (set e i Free)
  stray_freed n m =
      free_next (is_stray d marks) d e i F (stray_same ∙ and_from (net_at e i) (not (eqb (get_or marks i 0) 1)) n (not_from_false (eqb (get_or marks i 0) 1) m))

  -- a cell that is written back is as it was
  pub stray_passed : (net_at e i ≡ true → eqb (get_or marks i 0) 1 ≡ true) → Frees (filter (is_stray d marks) (range_with_len 0 (i + 1))) d (set e i (record_at e i))
  stray_passed m =
      let away = λ (h : is_stray d marks i ≡ true).
      let s = and_parts (net_at e i) (not (eqb (get_or marks i 0) 1)) (sym stray_same ∙ h) in
      both_ways (eqb (get_or marks i 0) 1) (not-true (eqb (get_or marks i 0) 1) s.1) (m s.0) in
      rw (set-get_or e i Free) (pass_next (is_stray d marks) d e i F (⊎_elim (λ h. absurd (away h)) (λ h. h) (cases_Bool (is_stray d marks i))))
