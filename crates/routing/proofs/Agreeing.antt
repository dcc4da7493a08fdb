-- Refusals with the same pads and bars to be met show the same.
use Rattle.std.proofs.Common.{◌≡◌, ℕ, ◌<◌, List, [], ◌∷◌, length, sym, refl, ap, ◌∙◌, ⊎_elim, arith}
use Rattle.linkages.specs.Lists.{Mem, here, there, Within, Same}
use Rattle.linkages.proofs.Members.{mem_none, mem_cases}
use Rattle.linkages.proofs.SameMembers.{fences_agree}
use Rattle.routing.specs.Showing.{Rising}
use Rattle.routing.specs.Outcomes.{RefusalsAgree}

-- rising lists with the same members are one
rising_within : (x y : ℕ) (xs ys : List ℕ) → x ≡ y → Rising (x ∷ xs) → Within (x ∷ xs) (y ∷ ys) → Within xs ys
rising_within x y xs ys e r w c k = ⊎_elim
    (λ (f : c ≡ y). let l = r.0 c k in let z : ⊥ = omega arith in absurd z)
    (λ h. h)
    (mem_cases (w c (there k)))

least : (x y : ℕ) (ys : List ℕ) → Rising (y ∷ ys) → Mem x (y ∷ ys) → (x < y → ⊥)
least x y ys r k l = ⊎_elim (λ (e : x ≡ y). omega arith) (λ h. let g = r.0 x h in omega arith) (mem_cases k)

pub same_rising : (xs ys : List ℕ) → Rising xs → Rising ys → Same xs ys → xs ≡ ys
same_rising [] [] r q s = refl
same_rising [] (y ∷ ys) r q s = absurd (mem_none (s.1 y (here refl)))
same_rising (x ∷ xs) [] r q s = absurd (mem_none (s.0 x (here refl)))
same_rising (x ∷ xs) (y ∷ ys) r q s =
    let a = least x y ys q (s.0 x (here refl)) in
    let b = least y x xs r (s.1 y (here refl)) in
    let e : x ≡ y = omega (arith, a, b) in
    ap (λ v. v ∷ xs) e ∙ ap (λ zs. y ∷ zs) (same_rising xs ys r.1 q.1
    (rising_within x y xs ys e r s.0, rising_within y x ys xs (sym e) q s.1))

unfoldable pub refusals_agree : RefusalsAgree
refusals_agree m bars pads report report' a x bars₂ pads₂ report₂ report₂' a₂ x₂ b p s t =
    let both = fences_agree m bars bars₂ pads pads₂ s.others s.left_out b p s.no_more s.others_met
    s.shown_pads s.shown_cells t.shown_pads t.shown_cells s.fence t.fence in
    let A = same_rising s.shown_pads t.shown_pads s.pads_rise t.pads_rise both.0 in
    let X = same_rising s.shown_cells t.shown_cells s.cells_rise t.cells_rise both.1 in
    (A, X, s.pads_counted ∙ ap length A ∙ sym t.pads_counted, s.cells_counted ∙ ap length X ∙ sym t.cells_counted)
