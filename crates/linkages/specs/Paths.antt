-- Paths and linkages of a board m under bars, and what is claimed of them. The bars are a list of cells.
use Rattle.std.specs.Prelude.{◌≡◌, ℕ, ◌<◌, true, cond, List, [], ◌∷◌}
use Rattle.boards.specs.Meaning.{Meaning, Bounded, outlets_of, pad_at, landing_at}
use Rattle.linkages.specs.Lists.{Mem, Within, Distinct, Next, Front}

abbrev pub Landing : Meaning → ℕ → Type 0
Landing m c = landing_at m c ≡ true

abbrev pub Unbarred : List ℕ → ℕ → Type 0
Unbarred bars c = Mem c bars → ⊥

-- xs are the cells of an unbarred walk to z, and a is the first of them; cells may come again
pub data Walk (m : Meaning) (bars : List ℕ) (z : ℕ) : ℕ → List ℕ → Type 0 where
  stop : {a : ℕ} → Unbarred bars a → a ≡ z → Walk m bars z a (a ∷ [])
  step : {a b : ℕ} {xs : List ℕ} → Unbarred bars a → Mem b (outlets_of m a) → Walk m bars z b xs → Walk m bars z a (a ∷ xs)

-- an unbarred path from a to z: different cells, none barred, each next one an outlet of the one before
pub record Path (m : Meaning) (bars : List ℕ) (a z : ℕ) (xs : List ℕ) : Type 0 where
  pub walk : Walk m bars z a xs
  pub distinct : Distinct xs

-- each pad of S has an unbarred path to a landing, and no cell is on two of these paths
pub record Linkage (m : Meaning) (bars S : List ℕ) : Type 0 where
  pub path : ℕ → List ℕ
  pub end : ℕ → ℕ
  pub runs : (q : ℕ) → Mem q S → Path m bars q (end q) (path q)
  pub lands : (q : ℕ) → Mem q S → Landing m (end q)
  pub apart : (q r c : ℕ) → Mem q S → Mem r S → Mem c (path q) → Mem c (path r) → q ≡ r

-- the pads of S can all be met under these bars: there is a linkage
abbrev pub CanBeMet : Meaning → List ℕ → List ℕ → Type 0
CanBeMet m bars S = Linkage m bars S

-- no cell but the last is a landing
abbrev pub LandsOnce : Meaning → List ℕ → Type 0
LandsOnce m xs = (u t : ℕ) → Next u t xs → Landing m u → ⊥

-- the list as far as its first landing
abbrev pub upto_landing : Meaning → List ℕ → List ℕ
upto_landing m [] = []
upto_landing m (x ∷ xs) = cond (landing_at m x) (x ∷ []) (x ∷ upto_landing m xs)

-- ---- what is claimed

-- a walk can be shortened to a path with the same ends and no other cells
abbrev pub WalksShorten : Type 0
WalksShorten = (m : Meaning) (bars : List ℕ) (a z : ℕ) (xs : List ℕ) → Walk m bars z a xs →
    (ys : List ℕ) × Path m bars a z ys × Within ys xs

-- the front part of a path, as far as any of its cells, is a path
abbrev pub FrontsArePaths : Type 0
FrontsArePaths = (m : Meaning) (bars : List ℕ) (a z c : ℕ) (xs : List ℕ) → Path m bars a z xs → Mem c xs →
    (ys : List ℕ) × Front ys xs × Path m bars a c ys

-- a path to a landing, cut after its first landing, is a path to a landing, and only its last cell is one
abbrev pub Truncated : Type 0
Truncated = (m : Meaning) (bars : List ℕ) (a z : ℕ) (xs : List ℕ) → Path m bars a z xs → Landing m z →
    Front (upto_landing m xs) xs × LandsOnce m (upto_landing m xs) ×
    ((c : ℕ) × Landing m c × Path m bars a c (upto_landing m xs))

-- a linkage is one for fewer pads, and under fewer bars; so it depends only on the members of the two lists
abbrev pub LinkageForLess : Type 0
LinkageForLess = (m : Meaning) (bars bars' S S' : List ℕ) → Within S' S → Within bars' bars →
    Linkage m bars S → Linkage m bars' S'

-- on a bounded board pads and landings are cells, and a path from a cell holds nothing but cells
pub record PathsStayOnBoard : Type 0 where
  pub pads_are_cells : (m : Meaning) (c : ℕ) → Bounded m → pad_at m c ≡ true → c < m.cells
  pub landings_are_cells : (m : Meaning) (c : ℕ) → Bounded m → Landing m c → c < m.cells
  pub paths_hold_cells : (m : Meaning) (bars : List ℕ) (a z c : ℕ) (xs : List ℕ) → Bounded m → a < m.cells →
      Path m bars a z xs → Mem c xs → c < m.cells
