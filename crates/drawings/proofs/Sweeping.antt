-- Freeing the net cells that no first cell leads to: with the local rules what is left is lawful, and no wired pad, bar or used landing is lost.
use Rattle.std.proofs.Common.{◌≡◌, ℕ, true, ◌&&◌, List, [], ◌∷◌, length, Some, sym, ap, ◌∙◌, ⊎_elim}
use Rattle.std.proofs.lemmas.Bool.{cases_Bool, and_right}
use Rattle.boards.specs.Meaning.{Meaning, landing_at}
use Rattle.linkages.specs.Lists.{Mem}
use Rattle.linkages.proofs.Members.{dec_mem}
use Rattle.records.specs.declared.record.Record.{Record}
use Rattle.records.specs.Records.{is_net, is_first, is_barred, record_at}
use Rattle.drawings.specs.Nets.{after_at, net_at, first_at, barred_at, wired, bars, used, Runs, ends}
use Rattle.drawings.specs.Lawful.{Local, Reached, first, next, Lawful}
use Rattle.drawings.specs.Outcomes.{Frees}
use Rattle.drawings.proofs.Said.{before_net, after_net, net_unbarred}
use Rattle.drawings.proofs.Follow.{reached_before, run_reached}
use Rattle.drawings.proofs.Freeing.{free_lawful, cells_same}

-- xs are the net cells that are not reached
module _ (m : Meaning) (d e : List Record) (xs : List ℕ) (L : (c : ℕ) → Local m d c) (F : Frees xs d e)
    (on_nets : (k : ℕ) → Mem k xs → net_at d k ≡ true) (apart : (k : ℕ) → Mem k xs → Reached d k → ⊥)
    (all : (k : ℕ) → (Mem k xs → ⊥) → net_at d k ≡ true → Reached d k) where
  onto : (s t : ℕ) → Mem s xs → after_at d s ≡ Some t → Mem t xs
  onto s t i q = go (dec_mem t xs)
    where
      go : Dec (Mem t xs) → Mem t xs
      go (yes j) = j
      go (no n) = absurd (apart s i (reached_before m d L s (all t n (before_net (record_at d t) s ((L s).after_names_back t q)).0) q))

  back : (s t : ℕ) → Mem t xs → after_at d s ≡ Some t → Mem s xs
  back s t i q = go (dec_mem s xs)
    where
      go : Dec (Mem s xs) → Mem s xs
      go (yes j) = j
      go (no n) = absurd (apart t i (next (all s n (after_net (record_at d s) t q).0) q))

  pub swept_lawful : length d ≡ m.cells → Lawful m e
  swept_lawful long = free_lawful m d e xs L F onto back long all

  pub swept_wired : wired e ≡ wired d
  swept_wired = cells_same d e (first_at e) (first_at d) F.long (λ k. go k (dec_mem k xs))
    where
      go : (k : ℕ) → Dec (Mem k xs) → first_at e k ≡ first_at d k
      go k (yes i) = ap is_first (F.inside k i) ∙ sym (⊎_elim (λ h. absurd (apart k i (first h))) (λ h. h) (cases_Bool (first_at d k)))
      go k (no n) = ap is_first (F.outside k n)

  pub swept_bars : bars e ≡ bars d
  swept_bars = cells_same d e (barred_at e) (barred_at d) F.long (λ k. go k (dec_mem k xs))
    where
      go : (k : ℕ) → Dec (Mem k xs) → barred_at e k ≡ barred_at d k
      go k (yes i) = ap is_barred (F.inside k i) ∙ sym (net_unbarred (record_at d k) (on_nets k i))
      go k (no n) = ap is_barred (F.outside k n)

  -- a landing on a net is its last cell, and so it is reached
  no_landing : (k : ℕ) → Mem k xs → landing_at m k ≡ true → ⊥
  no_landing k i h = let r : Runs d k (k ∷ []) = ends ((L k).landing_is_last (on_nets k i) h) in apart k i (run_reached m d L r)

  pub swept_used : used m e ≡ used m d
  swept_used = cells_same d e (λ k. net_at e k && landing_at m k) (λ k. net_at d k && landing_at m k) F.long (λ k. go k (dec_mem k xs))
    where
      go : (k : ℕ) → Dec (Mem k xs) → (net_at e k && landing_at m k) ≡ (net_at d k && landing_at m k)
      go k (yes i) =
          ap (λ b. b && landing_at m k) (ap is_net (F.inside k i)) ∙
          sym (and_right (net_at d k) (landing_at m k) (⊎_elim (λ h. absurd (no_landing k i h)) (λ h. h) (cases_Bool (landing_at m k))))
      go k (no n) = ap (λ b. b && landing_at m k) (ap is_net (F.outside k n))
