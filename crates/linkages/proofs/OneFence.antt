-- Pads with a fence have no linkage, and there is at most one fence.
use Rattle.std.proofs.Common.{◌≡◌, ℕ, ◌+◌, ◌<◌, ◌≤◌, List, ◌∷◌, map, length, sym, refl, subst, inl, inr, arith}
use lib.ListN.{length-map}
use Rattle.boards.specs.Meaning.{Meaning}
use Rattle.linkages.specs.Lists.{Mem, Within, Same, Distinct, Meets}
use Rattle.linkages.specs.Paths.{Path, Linkage}
use Rattle.linkages.specs.Fences.{Blocks, Fence, TooFewCells, NoLinkage, OneFence}
use Rattle.linkages.proofs.Members.{mem_cases, mem_at, dec_mem, without, mem_of_without, length_without_ge, distinct_without, mem_map}
use Rattle.linkages.proofs.Members.{mem_of_map}
use Rattle.linkages.proofs.Pigeons.{disjoint_paths, at_most_pads, Tight, tight_on, tight_one, same_length}
use Rattle.linkages.proofs.Walks.{upto, upto_within, upto_same, path_upto}
use Rattle.linkages.proofs.Fewer.{linkage_for_less}

-- what a linkage reaches through blocking cells
pub linked_at_most : (m : Meaning) (bars A X : List ℕ) → Distinct A → Blocks m bars A X → Linkage m bars A → length A ≤ length X
linked_at_most m bars A X d b L =
    at_most_pads A X L.path d L.apart (λ q k. b q (L.end q) (L.path q) k (L.runs q k) (L.lands q k))

pub too_few_cells : (k n : ℕ) → k < n → TooFewCells k n
too_few_cells k n l m bars A X S d f g b w L =
    let h = linked_at_most m bars A X d b (linkage_for_less m bars bars S A w (λ c i. i) L) in
    omega arith

pub no_linkage : NoLinkage
no_linkage m bars S A X S' F w =
    too_few_cells (length X) (length A) (let h = F.count in omega arith) m bars A X S' F.pads_differ refl refl F.blocks w

-- A is blocked by one cell less than it has pads, and all of it but p has a linkage: p is in A, and the paths of the others
-- hold one cell of X each
module _ (m : Meaning) (bars S' : List ℕ) (p : ℕ) (L : Linkage m bars S') (A X : List ℕ) (d : Distinct A) (w : Within A (p ∷ S'))
    (l : length A ≡ length X + 1) (b : Blocks m bars A X) where
  pub holds_p : Mem p A
  holds_p = go (dec_mem p A)
    where
      others : (Mem p A → ⊥) → Within A S'
      others n c k = elim (mem_cases (w c k)) [ inl e ↦ absurd (n (mem_at (sym e) k)) | inr h ↦ h ]

      go : Dec (Mem p A) → Mem p A
      go (yes k) = k
      go (no n) = absurd (too_few_cells (length X) (length A) (omega arith) m bars A X S' d refl refl b (others n) L)

  pub linked : Within (without p A) S'
  linked q k = let h = mem_of_without p q A k in elim (mem_cases (w q h.0)) [ inl e ↦ absurd (h.1 e) | inr i ↦ i ]

  tight : Tight X (map L.path (without p A))
  tight = record {
    apart = disjoint_paths (without p A) L.path (distinct_without p A d) (λ q r c k i. L.apart q r c (linked q k) (linked r i));
    each = each;
    fits = let k = length_without_ge p A d in let i = length-map (without p A) L.path in omega arith;
  }
    where
      each : (xs : List ℕ) → Mem xs (map L.path (without p A)) → Meets X xs
      each xs k =
          let t = mem_of_map L.path xs (without p A) k in
          let q = t.0 in
          let i = linked q t.1 in
          subst (Meets X) (sym t.2) (b q (L.end q) (L.path q) (mem_of_without p q A t.1).0 (L.runs q i) (L.lands q i))

  pub on_path : {x : ℕ} → Mem x X → (q : ℕ) × Mem q (without p A) × Mem x (L.path q)
  on_path {x} k =
      let s = tight_on tight k in
      let t = mem_of_map L.path s.0 (without p A) s.1 in
      (t.0, t.1, subst (Mem x) t.2 s.2)

  pub one_on_path : {q x y : ℕ} → Mem q (without p A) → Mem x X → Mem x (L.path q) → Mem y X → Mem y (L.path q) → x ≡ y
  one_on_path k = tight_one tight (mem_map L.path k)

-- x is the only cell of X on a path; the path as far as x meets X', and as far as that cell it meets X: so they are one cell
one_place : {X X' xs : List ℕ} {x : ℕ} → Distinct xs → ((y : ℕ) → Mem y X → Mem y xs → x ≡ y) → (on : Mem x xs) →
    (h : Meets X' (upto on)) → Meets X (upto (upto_within on h.on)) → Mem x X'
one_place d only on h g =
    let on' = upto_within on h.on in
    mem_at (upto_same on on' d h.on (mem_at (only g.cell g.of (upto_within on' g.on)) g.on)) h.of

half : (m : Meaning) (bars S S' : List ℕ) (p : ℕ) → Within S (p ∷ S') → Linkage m bars S' → (A X A' X' : List ℕ) →
    Fence m bars S A X → Fence m bars S A' X' → Same A A' → Within X X'
half m bars S S' p w L A X A' X' F F' a x k = on_one (on_path m bars S' p L A X F.pads_differ v F.count F.blocks k)
  where
    v : Within A (p ∷ S')
    v c i = w c (F.inside c i)

    size : length X ≡ length X'
    size =
        let i = same_length F.pads_differ F'.pads_differ a in
        let f = F.count in
        let g = F'.count in
        omega arith

    on_one : (q : ℕ) × Mem q (without p A) × Mem x (L.path q) → Mem x X'
    on_one (q, j, on) = one_place P.distinct only on h g
      where
        P : Path m bars q (L.end q) (L.path q)
        P = L.runs q (linked m bars S' p L A X F.pads_differ v F.count F.blocks q j)

        in_A : Mem q A
        in_A = (mem_of_without p q A j).0

        to : Blocks m bars A' X
        to c z xs i = F.blocks c z xs (a.1 c i)

        back : Blocks m bars A X'
        back c z xs i = F'.blocks c z xs (a.0 c i)

        h : Meets X' (upto on)
        h = F'.nearest X size to q x (upto on) (a.0 q in_A) k (path_upto P on)

        on' : Mem h.cell (L.path q)
        on' = upto_within on h.on

        g : Meets X (upto on')
        g = F.nearest X' (sym size) back q h.cell (upto on') in_A h.of (path_upto P on')

        only : (y : ℕ) → Mem y X → Mem y (L.path q) → x ≡ y
        only y = one_on_path m bars S' p L A X F.pads_differ v F.count F.blocks j k on

pub one_fence : OneFence
one_fence m bars S S' p w L A X A' X' F F' =
    let to = F.fewest A' X' F'.pads_differ F'.inside F'.count F'.blocks in
    let back = F'.fewest A X F.pads_differ F.inside F.count F.blocks in
    ((to, back), (half m bars S S' p w L A X A' X' F F' (to, back), half m bars S S' p w L A' X' A X F' F (back, to)))
