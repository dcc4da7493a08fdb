-- One cell of a trail taken back.
use Rattle.std.proofs.Common.{◌≡◌, ℕ, ◌<◌, Bool, true, false, cond, ◌||◌, eqb, ◌⊎◌, List, [], ◌∷◌, length, set, Some, None, sym, refl, ap, ◌∙◌, subst, inl, inr, ⊎_elim}
use Rattle.std.proofs.lemmas.List.{length-set}
use Rattle.std.proofs.lemmas.Bool.{cases_eq, cases_Bool, false≢true, eq-eqb, ne_eqb, or_right}
use Rattle.boards.specs.Meaning.{Meaning, outlets_of, landing_at}
use Rattle.linkages.specs.Lists.{Mem, here, there}
use Rattle.linkages.proofs.Members.{mem_none, mem_one}
use Rattle.records.specs.declared.record.Record.{Record}
use Rattle.records.specs.declared.record.Record.TheVariants.{Free, Barred, Net}
use Rattle.records.specs.Records.{before_of, after_of, is_net, is_barred, is_first, is_last, record_at}
use Rattle.drawings.specs.Nets.{before_at, after_at, net_at, first_at, last_at, barred_at}
use Rattle.drawings.specs.Lawful.{Lawful}
use Rattle.drawings.proofs.Said.{none_not_some, some_same, before_net, after_net, first_net}
use Rattle.drawings.proofs.Changed.{set_other, set_free}
use Rattle.rewiring.specs.Trails.{exit_of, Enters, back, onward}
use Rattle.rewiring.specs.Moves.{alone, linked, parted, moved_by, moved}
use Rattle.rewiring.proofs.Relinks.{set_here, relinked}
use Rattle.rewiring.proofs.Stages.{Stage, cut, join, make, drop}

-- a cell is on a net as it was, with the same cell before it
abbrev pub SameFront : List Record → List Record → ℕ → Type 0
SameFront e f x = (before_at f x ≡ before_at e x) × (net_at f x ≡ net_at e x)

free_if : (r : Record) → is_net r ≡ false → is_barred r ≡ false → r ≡ Free
free_if Free n b = refl
free_if Barred n b = absurd (false≢true (sym b))
free_if (Net b a) n k = absurd (false≢true (sym n))

exit_cases : (r : Record) (s u : ℕ) → exit_of r s ≡ Some u → ((r ≡ Free) × (s ≡ u)) ⊎ (before_of r ≡ Some u)
exit_cases Free s u e = inl (refl, some_same refl e)
exit_cases Barred s u e = absurd (none_not_some e)
exit_cases (Net b a) s u e = inr e

-- what is entered from a cell is an outlet of the cell that the search went on from, or is that cell
enters_cases : {m : Meaning} {d : List Record} {s t : ℕ} → Enters m d s t →
    (u : ℕ) × (exit_of (record_at d s) s ≡ Some u) × ((u ≡ t) ⊎ Mem t (outlets_of m u))
enters_cases {t = t} (back e) = (t, e, inl refl)
enters_cases (onward {u = u} e o b) = (u, e, inr o)

pub record Step (m : Meaning) (d : List Record) (z : ℕ) (e f : List Record) (s t : ℕ) : Type 0 where
  pub stage : Stage m d z f (s ∷ []) []
  pub others : (x : ℕ) → (x ≡ s → ⊥) → (x ≡ t → ⊥) → SameFront e f x

module _ (m : Meaning) (d : List Record) (z : ℕ) (e : List Record) (s t : ℕ) (S : Stage m d z e (t ∷ []) []) (ne : s ≡ t → ⊥) where
  -- s is on no net
  off : s < length d → record_at e s ≡ Free → landing_at m s ≡ false → first_at d s ≡ false → Mem t (outlets_of m s) →
      Step m d z e (moved_by None e s t) s t
  off inside free dry new o =
      let f = alone e s in
      let at : record_at f s ≡ Net None None = set_here e s (Net None None) (subst (λ n. s < n) (sym S.long) inside) in
      let away = λ (c : ℕ) (n : c ≡ s → ⊥). set_other e s c (Net None None) n in
      let M = make m d z e f s t S (length-set e s (Net None None)) at away free dry new in
      let R = relinked f s t (Some t) (Some s) (ap is_net at) (first_net (record_at f t) (M.first t (there (here refl)))) in
      record {
        stage = join m d z f (linked f s t) s t s M R o ne;
        others = λ x n k. (R.befores x k ∙ ap before_of (away x n), R.nets x ∙ ap is_net (away x n));
      }

  -- s is on a net, and u before it
  module _ (u : ℕ) (b : before_at e s ≡ Some u) (new : first_at d s ≡ false) where
    on : (u ≡ t) ⊎ (u ≡ t → ⊥) → ((u ≡ t → ⊥) → Mem t (outlets_of m u)) → Step m d z e (moved_by (Some u) e s t) s t
    on which o =
        let q = S.names_on s u b in
        let f = parted e u s in
        let R = relinked e u s None None (after_net (record_at e u) s q).0 (before_net (record_at e s) u b).0 in
        let C = cut m d z e f s t u S R q new in
        elim which [
          | inl g ↦
              let h = set f t Free in
              let C' : Stage m d z f (s ∷ t ∷ []) (t ∷ []) = subst (λ k. Stage m d z f (s ∷ t ∷ []) (k ∷ [])) g C in
              let away = λ (c : ℕ) (n : c ≡ t → ⊥). set_other f t c Free n in
              let r : Step m d z e h s t = record {
                stage = drop m d z f h s t C' (length-set f t Free) (set_free f t) away ne;
                others = λ x n k. (ap before_of (away x k) ∙ R.befores x n, ap is_net (away x k) ∙ R.nets x);
              } in
              subst (λ v. Step m d z e (cond v h (linked f u t)) s t) (sym (eq-eqb u t g)) r
          | inr n ↦
              let h = linked f u t in
              let Q = relinked f u t (Some t) (Some u) (R.nets u ∙ (after_net (record_at e u) s q).0) (first_net (record_at f t) (C.first t (there (here refl)))) in
              let r : Step m d z e h s t = record {
                stage = join m d z f h s t u C Q (o n) ne;
                others = λ x i k. (Q.befores x k ∙ R.befores x i, Q.nets x ∙ R.nets x);
              } in
              subst (λ v. Step m d z e (cond v (set f t Free) h) s t) (sym (ne_eqb u t n)) r
        ]

  pub step : SameFront d e s → s < length d → barred_at d s ≡ false → Enters m d s t →
      (landing_at m s ≡ true → net_at d s ≡ false → ⊥) → Step m d z e (moved e s t) s t
  step same inside free enters dry =
      let h = enters_cases enters in
      let u = h.0 in
      elim (exit_cases (record_at d s) s u h.1) [
        | inl k ↦
            let n : net_at d s ≡ false = ap is_net k.0 in
            let r = off inside (free_if (record_at e s) (same.1 ∙ n) (S.bars s ∙ free))
            (⊎_elim (λ l. absurd (dry l n)) (λ l. l) (cases_Bool (landing_at m s))) (ap is_first k.0)
            (elim h.2 [ inl g ↦ absurd (ne (k.1 ∙ g)) | inr o ↦ subst (λ c. Mem t (outlets_of m c)) (sym k.1) o ]) in
            subst (λ b. Step m d z e (moved_by b e s t) s t) (sym (same.0 ∙ ap before_of k.0)) r
        | inr b ↦
            let r = on u (same.0 ∙ b) (before_net (record_at d s) u b).1 (cases_eq u t)
            (λ n. elim h.2 [ inl g ↦ absurd (n g) | inr o ↦ o ]) in
            subst (λ c. Step m d z e (moved_by c e s t) s t) (sym (same.0 ∙ b)) r
      ]

-- ---- the landing

module _ (m : Meaning) (d : List Record) (z : ℕ) (W : Lawful m d) (inside : z < length d) (free : barred_at d z ≡ false)
    (off_nets : net_at d z ≡ false) (land : landing_at m z ≡ true) where
  none : record_at d z ≡ Free
  none = free_if (record_at d z) off_nets free

  at_z : record_at (alone d z) z ≡ Net None None
  at_z = set_here d z (Net None None) inside

  away : (c : ℕ) → (c ≡ z → ⊥) → record_at (alone d z) c ≡ record_at d c
  away c n = set_other d z c (Net None None) n

  pub begun : Step m d z d (alone d z) z z
  begun = record {
    stage = record {
      long = length-set d z (Net None None);
      bars = λ c. ⊎_elim
          (λ (g : c ≡ z). ap (barred_at (alone d z)) g ∙ ap is_barred at_z ∙ sym free ∙ sym (ap (barred_at d) g))
          (λ n. ap is_barred (away c n))
          (cases_eq c z);
      firsts = λ c h. ⊎_elim
          (λ (g : c ≡ z). inl (here g))
          (λ n. inr (sym (ap is_first (away c n)) ∙ h))
          (cases_eq c z);
      kept = λ c h. ⊎_elim
          (λ (g : c ≡ z). ap (first_at (alone d z)) g ∙ ap is_first at_z)
          (λ n. ap is_first (away c n) ∙ h)
          (cases_eq c z);
      first = λ c i. ap (first_at (alone d z)) (mem_one i) ∙ ap is_first at_z;
      new = λ c i. ap (first_at d) (mem_one i) ∙ ap is_first none;
      lasts = λ c h. ⊎_elim
          (λ (g : c ≡ z). inr (ap (landing_at m) g ∙ land))
          (λ n. inr ((W.local c).last_is_landing (sym (ap is_last (away c n)) ∙ h)))
          (cases_eq c z);
      last = λ c i. absurd (mem_none i);
      no_landing = λ c i. absurd (mem_none i);
      landing_is_last = λ c h l. ⊎_elim
          (λ (g : c ≡ z). ap (last_at (alone d z)) g ∙ ap is_last at_z)
          (λ n. ap is_last (away c n) ∙ (W.local c).landing_is_last (sym (ap is_net (away c n)) ∙ h) l)
          (cases_eq c z);
      outlet = λ c x h. ⊎_elim
          (λ (g : c ≡ z). absurd (none_not_some (sym (ap after_of at_z) ∙ sym (ap (after_at (alone d z)) g) ∙ h)))
          (λ n. (W.local c).after_is_outlet x (sym (ap after_of (away c n)) ∙ h))
          (cases_eq c z);
      names_back = λ c x h. ⊎_elim
          (λ (g : c ≡ z). absurd (none_not_some (sym (ap after_of at_z) ∙ sym (ap (after_at (alone d z)) g) ∙ h)))
          (λ n. let k = (W.local c).after_names_back x (sym (ap after_of (away c n)) ∙ h) in
          ap before_of (away x (λ g. none_not_some (sym (ap before_of none) ∙ sym (ap (before_at d) g) ∙ k))) ∙ k)
          (cases_eq c z);
      names_on = λ c x h. ⊎_elim
          (λ (g : c ≡ z). absurd (none_not_some (sym (ap before_of at_z) ∙ sym (ap (before_at (alone d z)) g) ∙ h)))
          (λ n. let k = (W.local c).before_names_on x (sym (ap before_of (away c n)) ∙ h) in
          ap after_of (away x (λ g. none_not_some (sym (ap after_of none) ∙ sym (ap (after_at d) g) ∙ k))) ∙ k)
          (cases_eq c z);
      landings = λ c l. ⊎_elim
          (λ (g : c ≡ z). ap (net_at (alone d z)) g ∙ ap is_net at_z ∙ sym (or_right (net_at d c) (eqb c z) (eq-eqb c z g)))
          (λ n. ap is_net (away c n) ∙ unchanged c n)
          (cases_eq c z);
    };
    others = λ x n k. (ap before_of (away x n), ap is_net (away x n));
  }
    where
      or_none : (b : Bool) → b ≡ (b || false)
      or_none true = refl
      or_none false = refl

      unchanged : (c : ℕ) → (c ≡ z → ⊥) → net_at d c ≡ (net_at d c || eqb c z)
      unchanged c n = or_none (net_at d c) ∙ ap (λ b. net_at d c || b) (sym (ne_eqb c z n))
