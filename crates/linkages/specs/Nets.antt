-- Nets, the cells that a search from a pad enters, and the fence that it leaves where it finds no way.
use Rattle.std.specs.Prelude.{◌≡◌, ℕ, Bool, true, cond, List, [], ◌∷◌, map, filter, ◌≢◌}
use Rattle.boards.specs.Meaning.{Meaning, outlets_of}
use Rattle.linkages.specs.Lists.{Mem, Same, Distinct, Disjoint, Next}
use Rattle.linkages.specs.Paths.{Landing, Unbarred, Path, Linkage, CanBeMet, LandsOnce}
use Rattle.linkages.specs.Fences.{Fence}

abbrev pub first_of : List ℕ → ℕ
first_of [] = 0
first_of (x ∷ xs) = x

-- the wired pads: the first cells of the nets
abbrev pub pads_of : List (List ℕ) → List ℕ
pads_of nets = map first_of nets

-- each net is an unbarred path to a landing, of which only the last cell is a landing; no cell is on two nets
pub record Wiring (m : Meaning) (bars : List ℕ) (nets : List (List ℕ)) : Type 0 where
  pub disjoint : Disjoint nets
  pub end : List ℕ → ℕ
  pub runs : (xs : List ℕ) → Mem xs nets → Path m bars (first_of xs) (end xs) xs
  pub lands : (xs : List ℕ) → Mem xs nets → Landing m (end xs)
  pub lands_once : (xs : List ℕ) → Mem xs nets → LandsOnce m xs

-- t is on no net
abbrev pub OffNets : List (List ℕ) → ℕ → Type 0
OffNets nets t = (xs : List ℕ) → Mem xs nets → Mem t xs → ⊥

-- a search that enters t goes on from u: from t itself if it is on no net, else from the cell before t on its net.
-- From the first cell of a net it does not go on.
pub data Exit (nets : List (List ℕ)) (t u : ℕ) : Type 0 where
  off_nets : OffNets nets t → u ≡ t → Exit nets t u
  along : (xs : List ℕ) → Mem xs nets → Next u t xs → Exit nets t u

-- the cells that a search from p enters: p, and from each cell entered the exit of that cell and the exit's unbarred outlets
pub data Entered (m : Meaning) (bars : List ℕ) (nets : List (List ℕ)) (p : ℕ) : ℕ → Type 0 where
  start : Entered m bars nets p p
  onward : {t u v : ℕ} → Entered m bars nets p t → Exit nets t u → Unbarred bars v → Mem v (outlets_of m u) → Entered m bars nets p v
  backward : {t u : ℕ} → Entered m bars nets p t → Exit nets t u → Entered m bars nets p u

-- the search from p found no way: entered tells which cells it enters, and none of them is a landing on no net
pub record Failed (m : Meaning) (bars : List ℕ) (nets : List (List ℕ)) (p : ℕ) (entered : ℕ → Bool) : Type 0 where
  pub sound : (c : ℕ) → entered c ≡ true → Entered m bars nets p c
  pub whole : (c : ℕ) → Entered m bars nets p c → entered c ≡ true
  pub no_landing : (c : ℕ) → Entered m bars nets p c → Landing m c → OffNets nets c → ⊥

-- p is not yet wired and not barred, and the search from it found no way past the nets
pub record Trapped (m : Meaning) (bars : List ℕ) (nets : List (List ℕ)) (p : ℕ) (entered : ℕ → Bool) : Type 0 where
  pub wiring : Wiring m bars nets
  pub unwired : Mem p (pads_of nets) → ⊥
  pub unbarred : Unbarred bars p
  pub failed : Failed m bars nets p entered

-- the last cell of the list that passes, or d if none does
abbrev pub last_in : (ℕ → Bool) → ℕ → List ℕ → ℕ
last_in r d [] = d
last_in r d (x ∷ xs) = last_in r (cond (r x) x d) xs

-- p, and the wired pads that were entered
abbrev pub fence_pads : List (List ℕ) → ℕ → (ℕ → Bool) → List ℕ
fence_pads nets p entered = p ∷ filter entered (pads_of nets)

-- of the net of each such pad the last cell that was entered
abbrev pub fence_cells : List (List ℕ) → (ℕ → Bool) → List ℕ
fence_cells nets entered = map (λ xs. last_in entered (first_of xs) xs) (filter (λ xs. entered (first_of xs)) nets)

-- c is on a net and was entered, and the cell after it, if there is one, was not
pub record LastEntered (nets : List (List ℕ)) (entered : ℕ → Bool) (c : ℕ) : Type 0 where
  pub net : List ℕ
  pub laid : Mem net nets
  pub on : Mem c net
  pub came : entered c ≡ true
  pub no_further : (t : ℕ) → Next c t net → entered t ≢ true

-- A and X list, each cell once and in any order, the pads to be met that were entered and the last entered cells of the nets
pub record Shows (nets : List (List ℕ)) (p : ℕ) (entered : ℕ → Bool) (A X : List ℕ) : Type 0 where
  pub pads_differ : Distinct A
  pub cells_differ : Distinct X
  pub pads_only : (c : ℕ) → Mem c A → Mem c (p ∷ pads_of nets) × (entered c ≡ true)
  pub pads_all : (c : ℕ) → Mem c (p ∷ pads_of nets) → entered c ≡ true → Mem c A
  pub cells_only : (c : ℕ) → Mem c X → LastEntered nets entered c
  pub cells_all : (c : ℕ) → LastEntered nets entered c → Mem c X

-- ---- what is claimed

-- the nets are a linkage of their pads
abbrev pub NetsLink : Type 0
NetsLink = (m : Meaning) (bars : List ℕ) (nets : List (List ℕ)) → Wiring m bars nets → Linkage m bars (pads_of nets)

-- and pads that can be met can be wired: there are nets that begin with them, in their order
abbrev pub LinkagesWire : Type 0
LinkagesWire = (m : Meaning) (bars S : List ℕ) → Distinct S → CanBeMet m bars S →
    (nets : List (List ℕ)) × Wiring m bars nets × (pads_of nets ≡ S)

-- where the search from p finds no way, p and the wired pads cannot all be met
abbrev pub TrappedCannotBeMet : Type 0
TrappedCannotBeMet = (m : Meaning) (bars : List ℕ) (nets : List (List ℕ)) (p : ℕ) (entered : ℕ → Bool) → Trapped m bars nets p entered →
    CanBeMet m bars (p ∷ pads_of nets) → ⊥

-- a search that finds no way leaves a fence, listed net by net
abbrev pub SearchFences : Type 0
SearchFences = (m : Meaning) (bars : List ℕ) (nets : List (List ℕ)) (p : ℕ) (entered : ℕ → Bool) → Trapped m bars nets p entered →
    Fence m bars (p ∷ pads_of nets) (fence_pads nets p entered) (fence_cells nets entered)

-- and so do all lists with these members, as one pass over the cells writes them
abbrev pub ShownFences : Type 0
ShownFences = (m : Meaning) (bars : List ℕ) (nets : List (List ℕ)) (p : ℕ) (entered : ℕ → Bool) → Trapped m bars nets p entered →
    (A X : List ℕ) → Shows nets p entered A X → Fence m bars (p ∷ pads_of nets) A X

-- every fence of these pads has the members that the search shows
abbrev pub TheFence : Type 0
TheFence = (m : Meaning) (bars : List ℕ) (nets : List (List ℕ)) (p : ℕ) (entered : ℕ → Bool) → Trapped m bars nets p entered →
    (A X : List ℕ) → Fence m bars (p ∷ pads_of nets) A X → Same A (fence_pads nets p entered) × Same X (fence_cells nets entered)
