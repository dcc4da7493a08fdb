-- Fences: cells that show that pads cannot all be met, and what is claimed of them.
use Rattle.std.specs.Prelude.{◌≡◌, ℕ, ◌+◌, ◌<◌, List, ◌∷◌, length}
use Rattle.boards.specs.Meaning.{Meaning}
use Rattle.linkages.specs.Lists.{Mem, Within, Same, Distinct, Meets, Disjoint}
use Rattle.linkages.specs.Paths.{Landing, Unbarred, Path, CanBeMet}

-- every unbarred path from a pad of A to a landing meets a cell of X
abbrev pub Blocks : Meaning → List ℕ → List ℕ → List ℕ → Type 0
Blocks m bars A X = (a z : ℕ) (xs : List ℕ) → Mem a A → Path m bars a z xs → Landing m z → Meets X xs

-- a fence for the pads S, which are to be met: it shows the pads A and the cells X
pub record Fence (m : Meaning) (bars S A X : List ℕ) : Type 0 where
  pub pads_differ : Distinct A
  pub cells_differ : Distinct X
  pub inside : Within A S
  -- one pad more than cells
  pub count : length A ≡ length X + 1
  pub cells_unbarred : (c : ℕ) → Mem c X → Unbarred bars c
  pub blocks : Blocks m bars A X
  -- the fewest pads: if j cells block some j + 1 of the pads to be met, the shown pads are all among those
  pub fewest : (A' X' : List ℕ) → Distinct A' → Within A' S → length A' ≡ length X' + 1 → Blocks m bars A' X' → Within A A'
  -- the nearest cells: if others, as many, block the shown pads too, each unbarred path from a shown pad to one of
  -- those meets a shown cell
  pub nearest : (X' : List ℕ) → length X' ≡ length X → Blocks m bars A X' →
      (a x : ℕ) (xs : List ℕ) → Mem a A → Mem x X' → Path m bars a x xs → Meets X xs

-- ---- what is claimed

-- more lists than cells, no cell on two of them: one of the lists meets none of the cells
abbrev pub Pigeonhole : Type 0
Pigeonhole = (X : List ℕ) (xss : List (List ℕ)) → Disjoint xss → length X < length xss →
    (xs : List ℕ) × Mem xs xss × (Meets X xs → ⊥)

-- wherever k cells block n different pads, no pads with these among them can all be met
abbrev pub TooFewCells : ℕ → ℕ → Type 0
TooFewCells k n = (m : Meaning) (bars A X S : List ℕ) → Distinct A → length X ≡ k → length A ≡ n → Blocks m bars A X →
    Within A S → CanBeMet m bars S → ⊥

-- pads with a fence cannot all be met, and neither can any pads with the shown ones among them
abbrev pub NoLinkage : Type 0
NoLinkage = (m : Meaning) (bars S A X S' : List ℕ) → Fence m bars S A X → Within A S' → CanBeMet m bars S' → ⊥

-- if all of the pads but one can be met, any two fences show the same pads and the same cells
abbrev pub OneFence : Type 0
OneFence = (m : Meaning) (bars S S' : List ℕ) (p : ℕ) → Within S (p ∷ S') → CanBeMet m bars S' →
    (A X A' X' : List ℕ) → Fence m bars S A X → Fence m bars S A' X' → Same A A' × Same X X'

-- whether pads and cells are a fence depends on the members of the lists, and not on their order
abbrev pub FenceByMembers : Type 0
FenceByMembers = (m : Meaning) (bars bars' S S' A A' X X' : List ℕ) → Same bars bars' → Same S S' → Same A A' → Same X X' →
    Distinct A' → Distinct X' → Fence m bars S A X → Fence m bars' S' A' X'

-- a fence for some pads is one for fewer of them, as long as the shown ones are left
abbrev pub FenceForFewer : Type 0
FenceForFewer = (m : Meaning) (bars S S' A X : List ℕ) → Within A S' → Within S' S → Fence m bars S A X → Fence m bars S' A X

-- so fences for the same pads under the same bars, in whatever order these are listed, show the same pads and the same cells
abbrev pub FencesAgree : Type 0
FencesAgree = (m : Meaning) (bars bars' S S' R : List ℕ) (p : ℕ) → Same bars bars' → Same S S' → Within S (p ∷ R) → CanBeMet m bars R →
    (A X A' X' : List ℕ) → Fence m bars S A X → Fence m bars' S' A' X' → Same A A' × Same X X'
