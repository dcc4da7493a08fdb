-- The only outcomes of the calls on the small boards.
use Rattle.std.proofs.Common.{◌≡◌, ℕ, zero, suc, ◌<◌, ◌≤◌, true, false, ◌&&◌, List, [], ◌∷◌, length, take, drop, replicate, Ok, Err, Result, sym, refl, ap, ◌∙◌, subst, inl, inr, arith, length-drop}
use Rattle.std.proofs.lemmas.List.{length-take-le}
use Rattle.std.proofs.lemmas.Bool.{cases_order, and_parts, false≢true}
use Rattle.boards.specs.Meaning.{Meaning, landing_at}
use Rattle.boards.specs.Refusals.{Answer}
use Rattle.linkages.specs.Lists.{here, there, Within, Same, Distinct}
use Rattle.linkages.specs.Paths.{CanBeMet}
use Rattle.linkages.specs.Fences.{Fence}
use Rattle.linkages.proofs.Members.{mem_none, mem_one}
use Rattle.linkages.proofs.Fewer.{linkage_for_less}
use Rattle.linkages.proofs.OneFence.{no_linkage}
use Rattle.linkages.proofs.Pigeons.{same_length}
use Rattle.linkages.proofs.SameMembers.{fences_agree}
use Rattle.linkages.proofs.WorkedBoards.{row_example, barred_row_example, lone_example}
use Rattle.records.specs.declared.record.Record.{Record}
use Rattle.records.specs.declared.record.Record.TheVariants.{Free}
use Rattle.records.specs.declared.refusal.Refusal.{Refusal}
use Rattle.records.specs.declared.refusal.Refusal.TheVariants.{WrongDrawing, ShortWork, ShortReport, NotLawful, NoSuchCell, NotPad, WiredAlready, NotWired, BarredAlready, NotBarred, WiredPad, NoWay}
use Rattle.drawings.specs.Nets.{bars, net_at}
use Rattle.records.specs.Numbers.{number_of}
use Rattle.drawings.proofs.Cells.{kept_below}
use Rattle.runs.specs.declared.calls.Kind.TheVariants.{Place, Bar}
use Rattle.runs.specs.Histories.{Event, Book, empty_book, pads_to_meet, bars_to_meet}
use Rattle.runs.specs.Claim.{Refused, ShowsFence}
use Rattle.runs.specs.Steps.{event}
use Rattle.runs.specs.SmallRuns.{row_field, one_point, Always, Refuses, Shows, ZeroWired, SmallRuns}
use Rattle.runs.proofs.Standing.{Standing, standing}
use Rattle.runs.proofs.Shown.{fence_booked}
use Rattle.runs.proofs.Upheld.{judged, fenced_by}

-- the first number whose condition holds is the one given
exactly : (C : ℕ → Type 0) (n : ℕ) (report' : List ℕ) → C n → ((k : ℕ) → k < n → C k → ⊥) → (r : Result ℕ Refusal) →
    Answer number_of C (λ _. Unit {0}) r → Refuses n report' r
exactly C n report' c low r a = grind (arith, cases_order)

is_no_way : (f : Refusal) → number_of f ≡ 12 → (p : ℕ) × ((k : ℕ) × (f ≡ NoWay p k))
is_no_way WrongDrawing e = absurd (omega (arith, e))
is_no_way ShortWork e = absurd (omega (arith, e))
is_no_way ShortReport e = absurd (omega (arith, e))
is_no_way NotLawful e = absurd (omega (arith, e))
is_no_way NoSuchCell e = absurd (omega (arith, e))
is_no_way NotPad e = absurd (omega (arith, e))
is_no_way WiredAlready e = absurd (omega (arith, e))
is_no_way NotWired e = absurd (omega (arith, e))
is_no_way BarredAlready e = absurd (omega (arith, e))
is_no_way NotBarred e = absurd (omega (arith, e))
is_no_way WiredPad e = absurd (omega (arith, e))
is_no_way (NoWay p k) e = (p, (k, refl))

refused_no_way : (r : Result ℕ Refusal) (report' : List ℕ) → Refuses 12 report' r → (p : ℕ) × ((k : ℕ) × (r ≡ Err (NoWay p k)))
refused_no_way (Ok x) report' h = absurd h
refused_no_way (Err f) report' h = let n = is_no_way f h in (n.0, (n.1.0, ap Err n.1.1))

-- a fence that all fences are like is the one shown
module _ (m : Meaning) (b : Book) (e : Event) (pads cells : List ℕ)
    (only : (A X : List ℕ) → Fence m (bars_to_meet e.kind e.cell b) (pads_to_meet e.kind e.cell b) A X → Same A pads × Same X cells)
    (differ : Distinct pads) (apart : Distinct cells) where
  shown : (p k : ℕ) → e.answer ≡ Err (NoWay p k) → ShowsFence m b e p k → Shows pads cells e.report_after e.answer
  shown p k a F =
      let A = take p e.report_after in
      let X = take k (drop p e.report_after) in
      let same = only A X F.fence in
      let room = F.room in
      let p_is : p ≡ length pads = sym (length-take-le p e.report_after (omega arith)) ∙ same_length F.fence.pads_differ differ same.0 in
      let rest : k ≤ length (drop p e.report_after) = simp length-drop (omega arith) in
      let k_is : k ≡ length cells = sym (length-take-le k (drop p e.report_after) rest) ∙ same_length F.fence.cells_differ apart same.1 in
      record {
        no_way = a ∙ (ap (λ n. Err (NoWay n k)) p_is ∙ ap (λ n. Err (NoWay (length pads) n)) k_is);
        pads_shown = subst (λ (n : ℕ). Same (take n e.report_after) pads) p_is same.0;
        cells_shown = subst (λ (n : ℕ). Same (take (length cells) (drop n e.report_after)) cells) p_is
            (subst (λ (n : ℕ). Same (take n (drop p e.report_after)) cells) k_is same.1);
      }

-- the book of the row with pad 0 wired
abbrev zero_booked : Book
zero_booked = record { pads = 0 ∷ []; barred = [] }

zero_standing : (d : List Record) → ZeroWired d → Standing row_field d zero_booked
zero_standing d Z = record { lawful = Z.lawful; pads = Z.one_pad; barred = Z.no_bar }

no_pads_met : (m : Meaning) (bars : List ℕ) → CanBeMet m bars []
no_pads_met m bars = record {
  path = λ q. [];
  end = λ q. 0;
  runs = λ q k. absurd (mem_none k);
  lands = λ q k. absurd (mem_none k);
  apart = λ q r c k. absurd (mem_none k);
}

-- where a single pad is shut in, that is the only fence
alone : (m : Meaning) (bars : List ℕ) (q : ℕ) → Fence m bars (q ∷ []) (q ∷ []) [] → (A X : List ℕ) → Fence m bars (q ∷ []) A X → Same A (q ∷ []) × Same X []
alone m bars q F A X G =
    fences_agree m bars bars (q ∷ []) (q ∷ []) [] q (λ c k. k, λ c k. k) (λ c k. k, λ c k. k) (λ c k. k) (no_pads_met m bars) A X (q ∷ []) [] G F

true_false : {Q : Type 0} → true ≡ false → Q
true_false e = absurd (false≢true (sym e))

-- the row's only landing
only_landing : (z : ℕ) → landing_at row_field z ≡ true → z ≡ 5
only_landing zero e = absurd (false≢true e)
only_landing (suc zero) e = absurd (false≢true e)
only_landing (suc (suc zero)) e = absurd (false≢true e)
only_landing (suc (suc (suc zero))) e = absurd (false≢true e)
only_landing (suc (suc (suc (suc zero)))) e = absurd (false≢true e)
only_landing (suc (suc (suc (suc (suc zero))))) e = refl
only_landing (suc (suc (suc (suc (suc (suc z)))))) e = absurd (false≢true e)

module _ (work report : List ℕ) (w : 24 ≤ length work) (s : 12 ≤ length report) where
  -- the row, just made
  fresh_0 : (n : ℕ) → Refused row_field empty_book Place 0 work report n → ⊥
  fresh_0 n h = grind (arith, mem_none, row_example.pad_0_can)

  fresh_2 : (k : ℕ) → k < 6 → Refused row_field empty_book Place 2 work report k → ⊥
  fresh_2 k l h = grind arith

  fresh_6 : (k : ℕ) → k < 5 → Refused row_field empty_book Place 6 work report k → ⊥
  fresh_6 k l h = grind arith

  -- the row with pad 0 wired
  again_0 : (k : ℕ) → k < 7 → Refused row_field zero_booked Place 0 work report k → ⊥
  again_0 k l h = grind arith

  before_bar_0 : (k : ℕ) → k < 11 → Refused row_field zero_booked Bar 0 work report k → ⊥
  before_bar_0 k l h = grind (arith, mem_none, mem_one)

  before_place_1 : (k : ℕ) → k < 12 → Refused row_field zero_booked Place 1 work report k → ⊥
  before_place_1 k l h = grind (arith, mem_none, mem_one)

  before_bar_4 : (k : ℕ) → k < 12 → Refused row_field zero_booked Bar 4 work report k → ⊥
  before_bar_4 k l h = grind (arith, mem_none, mem_one)

one_point_0 : (work report : List ℕ) → 4 ≤ length work → 2 ≤ length report → (k : ℕ) → k < 12 → Refused one_point empty_book Place 0 work report k → ⊥
one_point_0 work report w s k l h = grind (arith, mem_none)

place_0_answers : Always row_field Place 0 (replicate 6 Free) (λ _ r. r ≡ Ok 5)
place_0_answers e work work' report report' (Ok z) w s P =
    let k = (kept_below (λ c. net_at e c && landing_at row_field c) (length e) z (P.0.1.wired_also.rewired.landing_used.1 z (here refl))).1 in
    ap Ok (only_landing z (and_parts (net_at e z) (landing_at row_field z) k).1)
place_0_answers e work work' report report' (Err f) w s P =
    absurd (fresh_0 work report w s (number_of f)
    (judged row_field (replicate 6 Free) empty_book (standing row_field [] tt) 0 e work work' report report' Place (Err f) P).0)

flip : (a b : ℕ) → Within (a ∷ b ∷ []) (b ∷ a ∷ [])
flip a b c (here e) = there (here e)
flip a b c (there (here e)) = here e
flip a b c (there (there k)) = absurd (mem_none k)

pub small_runs : SmallRuns
small_runs = record {
  place_0 = place_0_answers;
  place_2 = λ e work work' report report' r w s P.
      exactly _ 6 report' (inr (inr (inl (refl, refl)))) (fresh_2 work report w s) r
      (judged row_field (replicate 6 Free) empty_book (standing row_field [] tt) 2 e work work' report report' Place r P);
  place_6 = λ e work work' report report' r w s P.
      exactly _ 5 report' (inr (inl (refl, omega arith))) (fresh_6 work report w s) r
      (judged row_field (replicate 6 Free) empty_book (standing row_field [] tt) 6 e work work' report report' Place r P);
  place_0_again = λ d Z e work work' report report' r w s P.
      exactly _ 7 report' (inr (inr (inr (inl (refl, here refl))))) (again_0 work report w s) r
      (judged row_field d zero_booked (zero_standing d Z) 0 e work work' report report' Place r P);
  bar_0 = λ d Z e work work' report report' r w s P.
      exactly _ 11 report' (inr (inr (inr (inl (refl, here refl))))) (before_bar_0 work report w s) r
      (judged row_field d zero_booked (zero_standing d Z) 0 e work work' report report' Bar r P);
  place_1 = λ d Z e work work' report report' r w s P.
      let cannot : CanBeMet row_field [] (1 ∷ 0 ∷ []) → ⊥ =
      λ L. row_example.both_cannot (linkage_for_less row_field [] [] (1 ∷ 0 ∷ []) (0 ∷ 1 ∷ []) (flip 0 1) (λ c k. k) L) in
      let twelve = exactly _ 12 report' (inr (inr (inr (inr (inr (refl, cannot)))))) (before_place_1 work report w s) r
      (judged row_field d zero_booked (zero_standing d Z) 1 e work work' report report' Place r P) in
      let n = refused_no_way r report' twelve in
      shown row_field zero_booked (event Place 1 d e work work' report report' r) (0 ∷ 1 ∷ []) (5 ∷ [])
      (λ A X F. row_example.no_other A X (fence_booked row_field [] [] (1 ∷ 0 ∷ []) (0 ∷ 1 ∷ []) A X (λ c k. k, λ c k. k) (flip 1 0, flip 0 1) F))
      ((λ k. omega (arith, mem_one k)), (mem_none, tt)) (mem_none, tt) n.0 n.1.0 n.1.1
      (fenced_by row_field d zero_booked (zero_standing d Z) 1 e work work' report report' Place r P n.0 n.1.0 n.1.1);
  bar_4 = λ d Z e work work' report report' r w s P.
      let F = barred_row_example.alone in
      let cannot = λ (L : CanBeMet row_field (4 ∷ []) (0 ∷ [])). no_linkage row_field (4 ∷ []) (0 ∷ []) (0 ∷ []) [] (0 ∷ []) F (λ c k. k) L in
      let twelve = exactly _ 12 report' (inr (inr (inr (inr (refl, cannot))))) (before_bar_4 work report w s) r
      (judged row_field d zero_booked (zero_standing d Z) 4 e work work' report report' Bar r P) in
      let n = refused_no_way r report' twelve in
      shown row_field zero_booked (event Bar 4 d e work work' report report' r) (0 ∷ []) [] (alone row_field (4 ∷ []) 0 F)
      (mem_none, tt) tt n.0 n.1.0 n.1.1
      (fenced_by row_field d zero_booked (zero_standing d Z) 4 e work work' report report' Bar r P n.0 n.1.0 n.1.1);
  no_escape = λ e work work' report report' r w s P.
      let F = lone_example.fence in
      let cannot = λ (L : CanBeMet one_point [] (0 ∷ [])). no_linkage one_point [] (0 ∷ []) (0 ∷ []) [] (0 ∷ []) F (λ c k. k) L in
      let twelve = exactly _ 12 report' (inr (inr (inr (inr (inr (refl, cannot)))))) (one_point_0 work report w s) r
      (judged one_point (replicate 1 Free) empty_book (standing one_point [] tt) 0 e work work' report report' Place r P) in
      let n = refused_no_way r report' twelve in
      shown one_point empty_book (event Place 0 (replicate 1 Free) e work work' report report' r) (0 ∷ []) [] (alone one_point [] 0 F)
      (mem_none, tt) tt n.0 n.1.0 n.1.1
      (fenced_by one_point (replicate 1 Free) empty_book (standing one_point [] tt) 0 e work work' report report' Place r P n.0 n.1.0 n.1.1);
}
