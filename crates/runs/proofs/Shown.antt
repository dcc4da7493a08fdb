-- The fence in report memory, by the lists that stand there.
use Rattle.std.proofs.Common.{◌≡◌, ℕ, ◌+◌, List, ◌++◌, length, take, drop, sym, ap, ◌∙◌, subst, append_assoc, arith, length-append}
use Rattle.std.proofs.Math.Seq.{take-append_seam, drop-append_seam}
use Rattle.boards.specs.Meaning.{Meaning}
use Rattle.linkages.specs.Lists.{Same}
use Rattle.linkages.specs.Fences.{Fence}
use Rattle.linkages.proofs.SameMembers.{fence_by_members}
use Rattle.routing.specs.Outcomes.{FenceShown}
use Rattle.runs.specs.Histories.{Event, Book, pads_to_meet, bars_to_meet}
use Rattle.runs.specs.Claim.{ShowsFence}

same_self : (xs : List ℕ) → Same xs xs
same_self xs = (λ c k. k, λ c k. k)

-- a fence by the drawing is one by the book
pub fence_booked : (m : Meaning) (bars bars' S S' A X : List ℕ) → Same bars bars' → Same S S' → Fence m bars S A X → Fence m bars' S' A X
fence_booked m bars bars' S S' A X s t F =
    fence_by_members m bars bars' S S' A A X X s t (same_self A) (same_self X) F.pads_differ F.cells_differ F

module _ (m : Meaning) (b : Book) (e : Event) (bars pads : List ℕ)
    (same_bars : Same bars (bars_to_meet e.kind e.cell b)) (same_pads : Same pads (pads_to_meet e.kind e.cell b)) (p k : ℕ) where
  pub shows_fence : FenceShown m bars pads e.report e.report_after p k → ShowsFence m b e p k
  shows_fence F =
      let A = F.shown_pads in
      let X = F.shown_cells in
      let B = bars_to_meet e.kind e.cell b in
      let P = pads_to_meet e.kind e.cell b in
      let rest = drop (length (A ++ X)) e.report in
      let all : e.report_after ≡ A ++ (X ++ rest) = F.writes ∙ append_assoc A X rest in
      let front : take p e.report_after ≡ A = rw (F.pads_counted, all, take-append_seam) in
      let after : drop p e.report_after ≡ X ++ rest = rw (F.pads_counted, all, drop-append_seam) in
      let back : take k (drop p e.report_after) ≡ X = rw (after, F.cells_counted, take-append_seam) in
      let count : p + k ≡ length (A ++ X) = grind (arith, F.pads_counted, F.cells_counted, length-append A X) in
      record {
        room = omega (arith, count, ap length F.writes, length-append (A ++ X) rest);
        fence =
            subst (λ (Y : List ℕ). Fence m B P Y (take k (drop p e.report_after))) (sym front)
            (subst (Fence m B P A) (sym back) (fence_booked m bars B pads P A X same_bars same_pads F.fence));
        rest =
            ap (λ n. drop n e.report_after) count
            ∙ (ap (drop (length (A ++ X))) F.writes ∙ (drop-append_seam (A ++ X) rest ∙ sym (ap (λ n. drop n e.report) count)));
      }
