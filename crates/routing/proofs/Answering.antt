-- Which number a call gives, and what it leaves.
use Rattle.std.proofs.Common.{◌≡◌, ℕ, ◌*◌, ◌<◌, ◌≤◌, ◌⊎◌, true, List, ◌∷◌, ◌++◌, length, take, drop, replicate, Ok, Err, Result, sym, refl, ap, ◌∙◌, subst, inl, inr, ⊎_elim, arith}
use Rattle.std.specs.Result.{MatchResult}
use Rattle.std.proofs.lemmas.List.{length-take-le}
use Rattle.boards.specs.Meaning.{Meaning}
use Rattle.boards.specs.Refusals.{First, NoneHolds, Answer}
use Rattle.linkages.specs.Lists.{Mem}
use Rattle.linkages.specs.Paths.{CanBeMet}
use Rattle.linkages.proofs.OneFence.{no_linkage}
use Rattle.linkages.proofs.Fewer.{linkage_for_less}
use Rattle.records.specs.declared.record.Record.{Record}
use Rattle.records.specs.declared.refusal.Refusal.{Refusal}
use Rattle.records.specs.declared.refusal.Refusal.TheVariants.{WrongDrawing, ShortWork, ShortReport, NotLawful, NoSuchCell, NotPad, WiredAlready, NotWired, BarredAlready, NotBarred, WiredPad, NoWay}
use Rattle.records.specs.Records.{record_at}
use Rattle.drawings.specs.Nets.{net_at, wired, bars}
use Rattle.records.specs.Numbers.{number_of}
use Rattle.drawings.specs.Conditions.{HasNoWay}
use Rattle.drawings.proofs.Linking.{linked}
use Rattle.routing.specs.Conditions.{PlaceStopped, PlaceRefused, BarStopped, BarRefused}
use Rattle.routing.specs.Outcomes.{Zeroed, FenceShown, WiredAlso, Routed, PadPlaced, Rerouted, CellBarred, Leaves}
use Rattle.routing.proofs.Barring.{met_barred, as_net}

-- ---- conditions that come before the search, and the last one

abbrev pub WithLast : (ℕ → Type 0) → Type 0 → ℕ → Type 0
WithLast C P n = C n ⊎ ((n ≡ 12) × P)

-- conditions with numbers below 12
abbrev pub Early : (ℕ → Type 0) → Type 0
Early C = (n : ℕ) → C n → n < 12

module _ (C : ℕ → Type 0) (P : Type 0) where
  pub first_early : Early C → (n : ℕ) → First C n → First (WithLast C P) n
  first_early early n f = (inl f.0, λ k l. ⊎_elim (f.1 k l) (λ h. let e = early n f.0 in omega (arith, h.0)))

  pub first_last : NoneHolds C → P → First (WithLast C P) 12
  first_last none p = (inr (refl, p), λ k l. ⊎_elim (none k) (λ h. omega (arith, h.0)))

  pub none_holds : NoneHolds C → (P → ⊥) → NoneHolds (WithLast C P)
  none_holds none n k = ⊎_elim (none k) (λ h. n h.1)

  -- a refusal before the search leaves all memory as it was
  pub leaves_early : Early C → (U : Type 0) (F : ℕ → ℕ → Type 0) (r : Refusal) → C (number_of r) → U → Leaves U F r
  leaves_early early U F WrongDrawing h u = u
  leaves_early early U F ShortWork h u = u
  leaves_early early U F ShortReport h u = u
  leaves_early early U F NotLawful h u = u
  leaves_early early U F NoSuchCell h u = u
  leaves_early early U F NotPad h u = u
  leaves_early early U F WiredAlready h u = u
  leaves_early early U F NotWired h u = u
  leaves_early early U F BarredAlready h u = u
  leaves_early early U F NotBarred h u = u
  leaves_early early U F WiredPad h u = u
  leaves_early early U F (NoWay a x) h u = let e = early 12 h in let z : ⊥ = omega arith in absurd z

is_early : {P Q : Type 0} (k n : ℕ) → k < 12 → (Q → n < 12) → ((n ≡ k) × P) ⊎ Q → n < 12
is_early k n l f (inl h) = omega (arith, h.0)
is_early k n l f (inr q) = f q

pub place_early : (m : Meaning) (d : List Record) (work report : List ℕ) (c : ℕ) → Early (PlaceStopped m d work report c)
place_early m d work report c n = is_early 1 n (omega arith) (is_early 2 n (omega arith) (is_early 3 n (omega arith) (is_early 4 n (omega arith)
    (is_early 5 n (omega arith) (is_early 6 n (omega arith) (is_early 7 n (omega arith) (λ h. omega (arith, h.0))))))))

pub bar_early : (m : Meaning) (d : List Record) (work report : List ℕ) (c : ℕ) → Early (BarStopped m d work report c)
bar_early m d work report c n = is_early 1 n (omega arith) (is_early 2 n (omega arith) (is_early 3 n (omega arith) (is_early 4 n (omega arith)
    (is_early 5 n (omega arith) (is_early 9 n (omega arith) (λ h. omega (arith, h.0)))))))

-- ---- whether there is a way

pub can_be_met : (m : Meaning) (d e : List Record) (p z : ℕ) → WiredAlso m d e p z → CanBeMet m (bars d) (p ∷ wired d)
can_be_met m d e p z w =
    let R = w.rewired in
    linkage_for_less m (bars e) (bars d) (wired e) (p ∷ wired d) R.one_more.1 (λ c k. subst (Mem c) (sym R.same_bars) k) (linked m e R.lawful).linkage

pub no_way : (m : Meaning) (bars pads report report' : List ℕ) (a x : ℕ) → FenceShown m bars pads report report' a x → HasNoWay m bars pads
no_way m bars pads report report' a x s =
    no_linkage m bars pads s.shown_pads s.shown_cells pads s.fence s.fence.inside

-- ---- work memory

-- zeros written over the front
pub zeroed : (m : Meaning) (work now zeros : List ℕ) (n : ℕ) → n ≡ 4 * m.cells → n ≤ length work → length now ≡ length (take n work) →
    zeros ≡ replicate (length now) 0 → Zeroed m work (zeros ++ drop n work)
zeroed m work now zeros n e h l z =
    ap (λ xs. xs ++ drop n work) (z ∙ ap (λ k. replicate k 0) (l ∙ length-take-le n work h)) ∙ ap (λ k. replicate k 0 ++ drop k work) e

-- ---- how a call that searched ends

-- r answers what the search found, with f of a landing
abbrev pub Answers : (ℕ → ℕ) → Result ℕ (ℕ × ℕ) → Result ℕ Refusal → Type 0
Answers f found r = MatchResult found (λ z. r ≡ Ok (f z)) (λ k. r ≡ Err (NoWay k.0 k.1))

pub placed : (m : Meaning) (d e : List Record) (work work' report report' : List ℕ) (c : ℕ) (found : Result ℕ (ℕ × ℕ)) (r : Result ℕ Refusal) →
    Answers (λ z. z) found r → NoneHolds (PlaceStopped m d work report c) → Routed m d e c report report' found → Zeroed m work work' →
    Answer number_of (PlaceRefused m d work report c) (PadPlaced m d e work work' report report' c) r
placed m d e work work' report report' c (Ok z) r says none w zeros = rw says (
  none_holds (PlaceStopped m d work report c) (HasNoWay m (bars d) (c ∷ wired d)) none (λ no. no (can_be_met m d e c z w.0)),
  record { wired_also = w.0; zeroed = zeros; report_kept = w.1 },
)
placed m d e work work' report report' c (Err k) r says none w zeros = rw says (
    first_last (PlaceStopped m d work report c) (HasNoWay m (bars d) (c ∷ wired d)) none (no_way m (bars d) (c ∷ wired d) report report' k.0 k.1 w.1))

pub barred : (m : Meaning) (d e : List Record) (work work' report report' : List ℕ) (c : ℕ) (found : Result ℕ (ℕ × ℕ)) (r : Result ℕ Refusal) →
    Answers (λ _. 1) found r → NoneHolds (BarStopped m d work report c) → net_at d c ≡ true → Rerouted m d e c report report' found → Zeroed m work work' →
    Answer number_of (BarRefused m d work report c) (CellBarred m d e work work' report report' c) r
barred m d e work work' report report' c (Ok z) r says none on w zeros = rw says (
  none_holds (BarStopped m d work report c) (HasNoWay m (c ∷ bars d) (wired d)) none (λ no. no (met_barred m d e c w.0)),
  record { barred_also = w.0; as_it_was = as_net (record_at d c) m d e work work' c on zeros; report_kept = w.1 },
)
barred m d e work work' report report' c (Err k) r says none on w zeros = rw says (
    first_last (BarStopped m d work report c) (HasNoWay m (c ∷ bars d) (wired d)) none (no_way m (c ∷ bars d) (wired d) report report' k.0 k.1 w.1))
