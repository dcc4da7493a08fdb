-- Two refusals for want of a way with the same pads and bars to be met show the same fence.
use Rattle.std.proofs.Common.{◌≡◌, ℕ, Bool, true, false, not, eqb, ◌⊎◌, List, ◌∷◌, Err, filter, sym, ap, ◌∙◌, subst, inl, inr, ⊎_elim, arith}
use Rattle.std.proofs.lemmas.Bool.{cases_Bool, cases_eq, eq-eqb, ne_eqb, not-true, both_ways}
use Rattle.boards.specs.Meaning.{Meaning}
use Rattle.boards.specs.Refusals.{Answer}
use Rattle.linkages.specs.Lists.{Mem, here, there, Within}
use Rattle.linkages.specs.Paths.{CanBeMet}
use Rattle.linkages.specs.Nets.{pads_of, first_of}
use Rattle.linkages.proofs.Members.{mem_at, mem_cases, mem_kept, mem_of_kept, mem_map, mem_of_map}
use Rattle.linkages.proofs.Walks.{walk_unbarred}
use Rattle.linkages.proofs.Fewer.{linkage_for_less}
use Rattle.linkages.proofs.NetLists.{same_net, wiring_kept, wiring_under, nets_link}
use Rattle.linkages.proofs.SameMembers.{fences_agree}
use Rattle.records.specs.declared.record.Record.{Record}
use Rattle.records.specs.declared.refusal.Refusal.TheVariants.{NoWay}
use Rattle.drawings.specs.Nets.{wired, bars, nets, net_at}
use Rattle.records.specs.Numbers.{number_of}
use Rattle.drawings.proofs.Linking.{linked}
use Rattle.runs.specs.declared.calls.Kind.{Kind}
use Rattle.runs.specs.declared.calls.Kind.TheVariants.{Place, Lift, Bar, Clear}
use Rattle.runs.specs.Histories.{Event, History, Book, stands, book, pads_to_meet, bars_to_meet}
use Rattle.runs.specs.Claim.{Refused, HasNoWay, Upheld, Upholds, SameFences}
use Rattle.runs.proofs.Standing.{Standing, standing, upheld_at}

-- all but one of the pads can be met
pub record Nearly (m : Meaning) (bars pads : List ℕ) : Type 0 where
  pub one : ℕ
  pub others : List ℕ
  pub all : Within pads (one ∷ others)
  pub met : CanBeMet m bars others

module _ (m : Meaning) (d : List Record) (b : Book) (S : Standing m d b) where
  -- place: all but its own pad
  place_nearly : (c : ℕ) → Nearly m b.barred (c ∷ b.pads)
  place_nearly c = record {
    one = c;
    others = b.pads;
    all = λ q k. k;
    met = linkage_for_less m (bars d) b.barred (wired d) b.pads S.pads.1 S.barred.1 (linked m d S.lawful).linkage;
  }

  off_bars : (xs : List ℕ) (q : ℕ) → Mem xs (nets d) → Mem q xs → Mem q (bars d) → ⊥
  off_bars xs q k i = walk_unbarred ((linked m d S.lawful).wiring.runs xs k).walk i

  -- bar: all of them if its cell is on no net, and else all but the pad of that net
  module _ (c : ℕ) where
    free_met : net_at d c ≡ false → CanBeMet m (c ∷ b.barred) b.pads
    free_met off =
        let L = linked m d S.lawful in
        let under = wiring_under {bars' = c ∷ bars d}
        (λ q i xs k j. elim (mem_cases i)
        [ inl e ↦ both_ways (net_at d c) off (L.net_cells c xs k (mem_at (sym e) j)) | inr i ↦ off_bars xs q k j i ])
        L.wiring in
        let all : Within b.pads (pads_of (nets d)) = λ q k. subst (Mem q) (sym L.pads) (S.pads.1 q k) in
        let fewer : Within (c ∷ b.barred) (c ∷ bars d) = λ q k. elim (mem_cases k) [ inl e ↦ here e | inr i ↦ there (S.barred.1 q i) ] in
        linkage_for_less m (c ∷ bars d) (c ∷ b.barred) (pads_of (nets d)) b.pads all fewer (nets_link m (c ∷ bars d) (nets d) under)

    -- whether a net begins elsewhere than at w
    abbrev other : ℕ → List ℕ → Bool
    other w ys = not (eqb (first_of ys) w)

    other_differs : (w : ℕ) (ys : List ℕ) → other w ys ≡ true → first_of ys ≡ w → ⊥
    other_differs w ys t e = both_ways (eqb (first_of ys) w) (not-true (eqb (first_of ys) w) t) (eq-eqb (first_of ys) w e)

    net_nearly : net_at d c ≡ true → Nearly m (c ∷ b.barred) b.pads
    net_nearly on =
        let L = linked m d S.lawful in
        let n = L.on_a_net c on in
        let xs = n.0 in
        let w = first_of xs in
        let left = filter (other w) (nets d) in
        let under = wiring_under {bars' = c ∷ bars d}
        (λ q i ys k j.
        let f = mem_of_kept (other w) ys (nets d) k in
        elim (mem_cases i) [
          | inl e ↦ other_differs w ys f.1 (ap first_of (same_net m (bars d) (nets d) L.wiring f.0 n.1 (mem_at (sym e) j) n.2))
          | inr i ↦ off_bars ys q f.0 j i
        ])
        (wiring_kept (other w) L.wiring) in
        let fewer : Within (c ∷ b.barred) (c ∷ bars d) = λ q k. elim (mem_cases k) [ inl e ↦ here e | inr i ↦ there (S.barred.1 q i) ] in
        record {
          one = w;
          others = pads_of left;
          all = λ q k.
              let p = mem_of_map first_of q (nets d) (subst (Mem q) (sym L.pads) (S.pads.1 q k)) in
              ⊎_elim
              (λ e. here e)
              (λ ne.
              let t : other w p.0 ≡ true = ap not (ne_eqb (first_of p.0) w (λ e. ne (p.2 ∙ e))) in
              there (mem_at p.2 (mem_map first_of (mem_kept (other w) p.1 t))))
              (cases_eq q w);
          met = linkage_for_less m (c ∷ bars d) (c ∷ b.barred) (pads_of left) (pads_of left) (λ q k. k) fewer (nets_link m (c ∷ bars d) left under);
        }

    bar_nearly : (CanBeMet m (c ∷ b.barred) b.pads → ⊥) → Nearly m (c ∷ b.barred) b.pads
    bar_nearly no_way = ⊎_elim net_nearly (λ off. absurd (no_way (free_met off))) (cases_Bool (net_at d c))

-- only place and bar are refused with 12, and then the pads to be met cannot be
module _ (m : Meaning) (b : Book) (c : ℕ) (work report : List ℕ) where
  pub for_want : (kind : Kind) → Refused m b kind c work report 12 → HasNoWay m kind c b 12 × ((kind ≡ Place) ⊎ (kind ≡ Bar))
  for_want Place h = grind arith
  for_want Lift h = absurd (grind arith)
  for_want Bar h = grind arith
  for_want Clear h = absurd (grind arith)

-- so all but one of the pads to be met can be met at every refusal for want of a way
module _ (m : Meaning) (d : List Record) (b : Book) (S : Standing m d b) (c : ℕ) where
  nearly_by : (kind : Kind) → HasNoWay m kind c b 12 × ((kind ≡ Place) ⊎ (kind ≡ Bar)) → Nearly m (bars_to_meet kind c b) (pads_to_meet kind c b)
  nearly_by Place w = place_nearly m d b S c
  nearly_by Bar w = bar_nearly m d b S c w.0.1
  nearly_by Lift w = elim w.1 [ inl e ↦ cc | inr e ↦ cc ]
  nearly_by Clear w = elim w.1 [ inl e ↦ cc | inr e ↦ cc ]

refused_12 : (m : Meaning) (e : Event) (g : History) (p k : ℕ) → Upheld m e g → e.answer ≡ Err (NoWay p k) →
    Refused m (book g) e.kind e.cell e.work e.report 12
refused_12 m e g p k u a =
    (subst (Answer number_of (Refused m (book g) e.kind e.cell e.work e.report) (λ _. Unit {0})) a u.numbered).0

pub same_fences : (m : Meaning) (h h' : History) → Upholds m h → Upholds m h' → SameFences m h h'
same_fences m h h' u u' e e' g g' p k p' k' made made' a a' pads barred =
    let v = upheld_at made u in
    let v' = upheld_at made' u' in
    let why = for_want m (book g) e.cell e.work e.report e.kind (refused_12 m e g p k v.0 a) in
    let N = nearly_by m (stands m g) (book g) (standing m g v.1) e.cell e.kind why in
    fences_agree m _ _ _ _ N.others N.one barred pads N.all N.met _ _ _ _ (v.0.fenced p k a).fence (v'.0.fenced p' k' a').fence
