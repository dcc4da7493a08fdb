-- Exits and bars of a lawful drawing, by its records and by its nets.
use Rattle.std.proofs.Common.{◌≡◌, ℕ, ◌<◌, Bool, true, false, List, length, Some, sym, refl, ap, ◌∙◌, subst, ⊎_elim}
use Rattle.std.proofs.lemmas.List.{get_or_past}
use Rattle.std.proofs.lemmas.Bool.{both_ways, cases_lt, cases_Bool, false≢true}
use Rattle.boards.specs.Meaning.{Meaning, landing_at}
use Rattle.linkages.specs.Paths.{Unbarred}
use Rattle.linkages.specs.Nets.{OffNets, Exit, off_nets, along}
use Rattle.records.specs.declared.record.Record.{Record}
use Rattle.records.specs.declared.record.Record.TheVariants.{Free, Barred, Net}
use Rattle.records.specs.Records.{before_of, is_net, is_barred, record_at}
use Rattle.drawings.specs.Nets.{before_at, net_at, barred_at, bars, nets}
use Rattle.drawings.specs.Lawful.{Lawful}
use Rattle.drawings.proofs.Cells.{kept_below, below_kept}
use Rattle.drawings.proofs.Said.{none_not_some, some_same, before_net, after_net, net_unbarred, net_inside}
use Rattle.drawings.proofs.Linking.{linked}
use Rattle.rewiring.specs.Trails.{exit_of}
use Rattle.routing.specs.Searches.{free_landing, open_at}

-- ---- bars

pub unbarred_from : (d : List Record) (c : ℕ) → barred_at d c ≡ false → Unbarred (bars d) c
unbarred_from d c e i = both_ways (barred_at d c) e (kept_below (barred_at d) (length d) c i).1

pub unbarred_at : (d : List Record) (c : ℕ) → Unbarred (bars d) c → barred_at d c ≡ false
unbarred_at d c f = ⊎_elim
    (λ h. ⊎_elim (λ e. absurd (f (below_kept (barred_at d) (length d) c h e))) (λ e. e) (cases_Bool (barred_at d c)))
    (λ h. ap is_barred (get_or_past d c Free h))
    (cases_lt c (length d))

-- ---- what a record's exit says

-- of a record that is no bar
pub exit_free : (r : Record) (t : ℕ) → is_net r ≡ false → is_barred r ≡ false → exit_of r t ≡ Some t
exit_free Free t e f = refl
exit_free Barred t e f = absurd (false≢true (sym f))
exit_free (Net b a) t e f = absurd (false≢true (sym e))

pub exit_net : (r : Record) (t : ℕ) → is_net r ≡ true → exit_of r t ≡ before_of r
exit_net Free t e = absurd (false≢true e)
exit_net Barred t e = absurd (false≢true e)
exit_net (Net b a) t e = refl

-- an open landing is free and a landing
pub open_free : (r : Record) (b : Bool) → free_landing r b ≡ true → (is_net r ≡ false) × (is_barred r ≡ false) × (b ≡ true)
open_free Free b e = (refl, refl, e)
open_free Barred b e = absurd (false≢true e)
open_free (Net x y) b e = absurd (false≢true e)

pub free_open : (r : Record) (b : Bool) → is_net r ≡ false → is_barred r ≡ false → b ≡ true → free_landing r b ≡ true
free_open Free b n f e = e
free_open Barred b n f e = absurd (false≢true (sym f))
free_open (Net x y) b n f e = absurd (false≢true (sym n))

pub net_not_open : (r : Record) (b : Bool) → is_net r ≡ true → free_landing r b ≡ false
net_not_open Free b e = absurd (false≢true e)
net_not_open Barred b e = refl
net_not_open (Net x y) b e = refl

-- an exit is the cell itself, which is on no net, or the cell before it
pub exit_cases : (P : Type 0) (r : Record) (t u : ℕ) → exit_of r t ≡ Some u → (is_net r ≡ false → u ≡ t → P) → (is_net r ≡ true → before_of r ≡ Some u → P) → P
exit_cases P Free t u e free on = free refl (some_same e refl)
exit_cases P Barred t u e free on = absurd (none_not_some e)
exit_cases P (Net b a) t u e free on = on refl e

module _ (m : Meaning) (d : List Record) (W : Lawful m d) where
  -- the cell before a cell is on a net
  pub before_is_net : (t u : ℕ) → before_at d t ≡ Some u → net_at d u ≡ true
  before_is_net t u e = (after_net (record_at d u) t ((W.local t).before_names_on u e)).0

  -- the exit of a cell that was entered: it is unbarred, and no open landing unless that cell is
  pub exit_inside : (t u : ℕ) → t < length d → exit_of (record_at d t) t ≡ Some u → u < length d
  exit_inside t u h e = exit_cases (u < length d) (record_at d t) t u e
      (λ _ f. subst (λ v. v < length d) (sym f) h)
      (λ _ f. net_inside d u (before_is_net t u f))

  pub exit_unbarred : (t u : ℕ) → barred_at d t ≡ false → exit_of (record_at d t) t ≡ Some u → barred_at d u ≡ false
  exit_unbarred t u h e = exit_cases (barred_at d u ≡ false) (record_at d t) t u e
      (λ _ f. ap (barred_at d) f ∙ h)
      (λ _ f. net_unbarred (record_at d u) (before_is_net t u f))

  pub exit_not_open : (t u : ℕ) → open_at m d t ≡ false → exit_of (record_at d t) t ≡ Some u → open_at m d u ≡ false
  exit_not_open t u h e = exit_cases (open_at m d u ≡ false) (record_at d t) t u e
      (λ _ f. ap (open_at m d) f ∙ h)
      (λ _ f. net_not_open (record_at d u) (landing_at m u) (before_is_net t u f))

  pub off_nets_at : (c : ℕ) → net_at d c ≡ false → OffNets (nets d) c
  off_nets_at c e xs i k = both_ways (net_at d c) e ((linked m d W).net_cells c xs i k)

  pub net_off : (c : ℕ) → OffNets (nets d) c → net_at d c ≡ false
  net_off c off = ⊎_elim (λ e. let h = (linked m d W).on_a_net c e in absurd (off h.0 h.1 h.2)) (λ e. e) (cases_Bool (net_at d c))

  -- the exit by records is the exit by nets
  pub exit_by_nets : (t u : ℕ) → exit_of (record_at d t) t ≡ Some u → Exit (nets d) t u
  exit_by_nets t u e = exit_cases (Exit (nets d) t u) (record_at d t) t u e
      (λ n f. off_nets (off_nets_at t n) f)
      (λ _ f. let h = (linked m d W).after_is_next u t ((W.local t).before_names_on u f) in along h.0 h.1 h.2)

  pub exit_by_record : (t u : ℕ) → barred_at d t ≡ false → Exit (nets d) t u → exit_of (record_at d t) t ≡ Some u
  exit_by_record t u free (off_nets off e) = exit_free (record_at d t) t (net_off t off) free ∙ ap Some (sym e)
  exit_by_record t u free (along xs i n) =
      let b = (W.local u).after_names_back t ((linked m d W).next_is_after u t xs i n) in
      exit_net (record_at d t) t (before_net (record_at d t) u b).0 ∙ b
