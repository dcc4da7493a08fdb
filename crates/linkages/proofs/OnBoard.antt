-- Pads, landings, outlets and paths of a bounded board are cells.
use Rattle.std.proofs.Common.{◌≡◌, ℕ, zero, suc, ◌<◌, Bool, true, false, List, [], ◌∷◌, length, get_or, subst, arith}
use mathlib.Core.Bool.{false≢true}
use Rattle.boards.specs.Meaning.{Meaning, Bounded, outlets_of}
use Rattle.linkages.specs.Lists.{Mem, here, there}
use Rattle.linkages.specs.Paths.{Walk, stop, step, PathsStayOnBoard}
use Rattle.linkages.proofs.Members.{mem_none}
use Rattle.linkages.proofs.Places.{has_from_mem}

-- what is marked is below the length
pub marked_below : (marks : List Bool) (c : ℕ) → get_or marks c false ≡ true → c < length marks
marked_below [] c e = absurd (false≢true e)
marked_below (x ∷ marks) zero e = omega arith
marked_below (x ∷ marks) (suc c) e = let h = marked_below marks c e in omega arith

pub outlets_are_cells : (m : Meaning) (c d : ℕ) → Bounded m → Mem d (outlets_of m c) → d < m.cells
outlets_are_cells m c d B k =
    let h = has_from_mem (outlets_of m c) d k in
    subst (λ (e : ℕ). e < m.cells) (h.2 0) (B.inside c h.0 h.1)

walks_hold_cells : {m : Meaning} {bars : List ℕ} {z a c : ℕ} {xs : List ℕ} → Bounded m → a < m.cells → Walk m bars z a xs → Mem c xs →
    c < m.cells
walks_hold_cells B l (stop f e) (here g) = omega arith
walks_hold_cells B l (stop f e) (there k) = absurd (mem_none k)
walks_hold_cells B l (step f o w) (here g) = omega arith
walks_hold_cells {m} {a = a} B l (step {b = b} f o w) (there k) = walks_hold_cells B (outlets_are_cells m a b B o) w k

pub paths_stay_on_board : PathsStayOnBoard
paths_stay_on_board = record {
  pads_are_cells = λ m c B e. let h = marked_below m.pads c e in let k = B.pads_length in omega arith;
  landings_are_cells = λ m c B e. let h = marked_below m.landings c e in let k = B.landings_length in omega arith;
  paths_hold_cells = λ m bars a z c xs B l P k. walks_hold_cells B l P.walk k;
}
