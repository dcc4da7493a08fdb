-- A fence depends only on the members of its lists.
use Rattle.std.proofs.Common.{ℕ, List, arith}
use Rattle.boards.specs.Meaning.{Meaning}
use Rattle.linkages.specs.Lists.{Within, Same}
use Rattle.linkages.specs.Fences.{Blocks, FenceByMembers, FenceForFewer, FencesAgree}
use Rattle.linkages.proofs.Members.{meets_more}
use Rattle.linkages.proofs.Pigeons.{same_length}
use Rattle.linkages.proofs.Fewer.{path_fewer_bars}
use Rattle.linkages.proofs.OneFence.{one_fence}

-- more bars, fewer pads and more cells keep it blocked
pub blocks_more : (m : Meaning) (bars bars' A A' X X' : List ℕ) → Within bars bars' → Within A' A → Within X X' →
    Blocks m bars A X → Blocks m bars' A' X'
blocks_more m bars bars' A A' X X' s a x b c z xs k P l =
    meets_more x (λ d i. i) (b c z xs (a c k) (path_fewer_bars s P) l)

pub fence_by_members : FenceByMembers
fence_by_members m bars bars' S S' A A' X X' t s a x da dx F =
    let same : (ys : List ℕ) → Within ys ys = λ ys c k. k in
    let la = same_length F.pads_differ da a in
    let lx = same_length F.cells_differ dx x in
    let n = F.count in
    record {
      pads_differ = da;
      cells_differ = dx;
      inside = λ c k. s.0 c (F.inside c (a.1 c k));
      count = omega arith;
      cells_unbarred = λ c k i. F.cells_unbarred c (x.1 c k) (t.1 c i);
      blocks = blocks_more m bars bars' A A' X X' t.0 a.1 x.0 F.blocks;
      fewest = λ B Y d w l b c k. F.fewest B Y d (λ e i. s.1 e (w e i)) l
          (blocks_more m bars' bars B B Y Y t.1 (same B) (same Y) b) c (a.1 c k);
      nearest = λ Y l b c y xs k i P. meets_more x.0 (same xs)
          (F.nearest Y (omega arith) (blocks_more m bars' bars A' A Y Y t.1 a.0 (same Y) b) c y xs (a.1 c k) i
          (path_fewer_bars t.0 P));
    }

pub fence_for_fewer : FenceForFewer
fence_for_fewer m bars S S' A X w v F = record {
  pads_differ = F.pads_differ;
  cells_differ = F.cells_differ;
  inside = w;
  count = F.count;
  cells_unbarred = F.cells_unbarred;
  blocks = F.blocks;
  fewest = λ B Y d i. F.fewest B Y d (λ c k. v c (i c k));
  nearest = F.nearest;
}

pub fences_agree : FencesAgree
fences_agree m bars bars' S S' R p b s w L A X A' X' F F' =
    let same : (ys : List ℕ) → Same ys ys = λ ys. (λ c k. k, λ c k. k) in
    one_fence m bars S R p w L A X A' X' F
    (fence_by_members m bars' bars S' S A' A' X' X' (b.1, b.0) (s.1, s.0) (same A') (same X') F'.pads_differ F'.cells_differ F')
