-- How the search for a way for a pad ends.
use Rattle.std.proofs.Common.{◌≡◌, ℕ, ◌-◌, ◌<◌, true, false, List, ◌∷◌, ◌++◌, length, Some, take, drop, sym, subst, arith}
use Rattle.std.proofs.lemmas.List.{take_rest}
use Rattle.std.proofs.lemmas.Bool.{both_ways, and_parts}
use Rattle.boards.specs.Meaning.{Meaning, Bounded, pad_at, landing_at}
use Rattle.linkages.specs.Lists.{Mem}
use Rattle.linkages.specs.Fences.{Fence}
use Rattle.linkages.specs.Nets.{Failed, Trapped}
use Rattle.linkages.proofs.OnBoard.{paths_stay_on_board}
use Rattle.linkages.proofs.SearchFence.{shown_fences}
use Rattle.records.specs.declared.record.Record.{Record}
use Rattle.drawings.specs.Nets.{net_at, first_at, barred_at, wired, bars, nets}
use Rattle.drawings.specs.Changes.{written}
use Rattle.drawings.specs.Lawful.{Lawful}
use Rattle.drawings.proofs.Cells.{kept_below}
use Rattle.drawings.proofs.Linking.{linked}
use Rattle.rewiring.specs.Trails.{Trail, Rewired}
use Rattle.routing.specs.Searches.{Notes, was_entered, Ended}
use Rattle.routing.specs.Courses.{Course}
use Rattle.routing.specs.Showing.{shows_pad, shows_cell, shown_pads, shown_cells}
use Rattle.routing.specs.Outcomes.{FenceShown, WiredAlso}
use Rattle.routing.proofs.Exits.{unbarred_from}
use Rattle.routing.proofs.Trailing.{course_trail}
use Rattle.routing.proofs.Shown.{shows, rising_below}

module _ (m : Meaning) (d : List Record) (p : ℕ) (pad : pad_at m p ≡ true) (unwired : first_at d p ≡ false) where
  -- the course that a search wrote to the end of a list is a trail
  pub written_trail : (s : Notes) (z k : ℕ) (ts : List ℕ) (i : ℕ) → Ended m d p s (Some z) → k ≡ s.count - 1 → Course s.queue s.from k 0 (drop i ts) →
      Trail m d p z (take (length ts - i) (drop i ts))
  written_trail s z k ts i T e C =
      let same : k ≡ T.last = omega (arith, T.count) in
      subst (Trail m d p z) (sym (take_rest ts i))
      (course_trail m d p s z (drop i ts) T pad unwired (subst (λ n. Course s.queue s.from n 0 (drop i ts)) same C))

  -- the landing of a trail is not used
  pub wired_also : (e : List Record) (z : ℕ) (ts : List ℕ) → Trail m d p z ts → Rewired m d e p z → WiredAlso m d e p z
  wired_also e z ts T R = record {
    rewired = R;
    landing_new = λ k. both_ways (net_at d z) T.end_off_nets
        (and_parts (net_at d z) (landing_at m z) (kept_below _ (length d) z k).1).0;
  }

  module _ (B : Bounded m) (W : Lawful m d) (unbarred : barred_at d p ≡ false) where
    pub pad_inside : p < length d
    pad_inside = subst (λ n. p < n) (sym W.one_each) (paths_stay_on_board.pads_are_cells m p B pad)

    module _ (E : List ℕ) (F : Failed m (bars d) (nets d) p (was_entered E)) where
      trapped : Trapped m (bars d) (nets d) p (was_entered E)
      trapped = record {
        wiring = (linked m d W).wiring;
        unwired = λ k. both_ways (first_at d p) unwired (kept_below (first_at d) (length d) p (subst (Mem p) (linked m d W).pads k)).1;
        unbarred = unbarred_from d p unbarred;
        failed = F;
      }

      pub fence_shown : (report report' : List ℕ) (a x : ℕ) → a ≡ length (shown_pads d E p) → x ≡ length (shown_cells d E) →
          report' ≡ written (shown_pads d E p ++ shown_cells d E) report → FenceShown m (bars d) (p ∷ wired d) report report' a x
      fence_shown report report' a x ea ex w = record {
        shown_pads = shown_pads d E p;
        shown_cells = shown_cells d E;
        pads_counted = ea;
        cells_counted = ex;
        fence = subst (λ S. Fence m (bars d) (p ∷ S) (shown_pads d E p) (shown_cells d E)) (linked m d W).pads
            (shown_fences m (bars d) (nets d) p (was_entered E) trapped (shown_pads d E p) (shown_cells d E) (shows m d W p pad_inside E));
        left_out = p;
        others = wired d;
        others_met = (linked m d W).linkage;
        no_more = λ c k. k;
        pads_rise = rising_below (shows_pad d E p) (length d);
        cells_rise = rising_below (shows_cell d E) (length d);
        writes = w;
      }
