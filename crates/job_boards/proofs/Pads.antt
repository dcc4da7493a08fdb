-- Pads that take a name or a point.
use Rattle.std.proofs.Common.{◌≡◌, ℕ, zero, suc, ◌<◌, ◌⊎◌, List, [], ◌∷◌, ◌++◌, map, length, get_or, Any, sym, refl, ap, ◌∙◌, subst, inl, inr, ⊎_elim, arith}
use Rattle.std.proofs.lemmas.List.{map_push}
use Rattle.linkages.specs.Lists.{Mem, here, there}
use Rattle.job_boards.specs.declared.plan.Pad.{Pad}
use Rattle.job_boards.specs.Plans.{Named, Plan}
use Rattle.job_boards.specs.Faults.{HasName, HasPoint}
use Rattle.job_boards.specs.Reading.{named, Takes}

-- the pads of the code and the same as plain data
pub named_there : (pads : List Pad) (k : ℕ) (x : Pad) → k < length pads → get_or pads k x ≡ x → Mem (named x) (map named pads)
named_there [] k x h e = absurd (omega arith)
named_there (y ∷ pads) zero x h e = here (ap named (sym e))
named_there (y ∷ pads) (suc k) x h e = there (named_there pads k x (omega arith) e)

pub named_from : (pads : List Pad) (q : Named) → Mem q (map named pads) → Any (λ x. q ≡ named x) pads
named_from [] q m = elim m [ ]
named_from (y ∷ pads) q (here e) = (0, y, omega arith, refl, e)
named_from (y ∷ pads) q (there m) = let r = named_from pads q m in (suc r.0, r.1, omega (arith, r.2), r.3, r.4)

pub named_push : (xs ys : List Pad) (y : Pad) → ys ≡ xs ++ y ∷ [] → map named ys ≡ map named xs ++ named y ∷ []
named_push xs ys y e = ap (map named) e ∙ map_push named xs y

-- what is wrong with another pad of the name or at the point
module _ (p : Plan) (pads : List Pad) (same : map named pads ≡ p.pads) (n : List ℕ) (r c : ℕ) where
  abbrev pub IsTaken : Type 0
  IsTaken = Any (λ q. Takes (named q) n r c) pads

  pub taken_wrong : IsTaken → HasName p n ⊎ HasPoint p r c
  taken_wrong t =
      let q = named t.1 in
      let m : Mem q p.pads = subst (Mem q) same (named_there pads t.0 t.1 t.2 t.3) in
      ⊎_elim (λ e. inl (q, m, e)) (λ e. inr (q, m, e.0, e.1)) t.4

  taken : (q : Named) → Mem q p.pads → Takes q n r c → IsTaken
  taken q m t =
      let T : Named → Type 0 = λ x. Takes x n r c in
      let h = named_from pads q (subst (Mem q) (sym same) m) in (h.0, h.1, h.2, h.3, subst T h.4 t)

  pub free_right : (IsTaken → ⊥) → HasName p n ⊎ HasPoint p r c → ⊥
  free_right free w = ⊎_elim (λ h. free (taken h.0 h.1 (inl h.2))) (λ h. free (taken h.0 h.1 (inr (h.2, h.3)))) w
