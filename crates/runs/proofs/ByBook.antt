-- The conditions of the calls, said of the drawing that stands and of the book.
use Rattle.std.proofs.Common.{◌≡◌, ℕ, ◌<◌, Bool, true, false, not, eqb, List, ◌∷◌, length, Ok, Err, Result, sym, refl, arith}
use Rattle.std.proofs.lemmas.List.{get_or_past}
use Rattle.boards.specs.Meaning.{Meaning}
use Rattle.boards.specs.Refusals.{Answer}
use Rattle.linkages.specs.Lists.{Mem, here, there, Within, Same}
use Rattle.linkages.specs.Paths.{CanBeMet}
use Rattle.linkages.proofs.Members.{mem_kept, mem_of_kept}
use Rattle.records.specs.declared.record.Record.{Record}
use Rattle.records.specs.declared.record.Record.TheVariants.{Free}
use Rattle.records.specs.Records.{record_at, is_first, is_barred}
use Rattle.drawings.specs.Nets.{first_at, barred_at, without, wired, bars}
use Rattle.drawings.specs.Conditions.{LiftRefused, ClearRefused}
use Rattle.drawings.proofs.Cells.{kept_below, below_kept}
use Rattle.linkages.proofs.Fewer.{linkage_for_less}
use Rattle.routing.specs.Conditions.{PlaceRefused, BarRefused}
use Rattle.runs.specs.declared.calls.Kind.TheVariants.{Place, Lift, Bar, Clear}
use Rattle.runs.specs.Histories.{Book}
use Rattle.runs.specs.Claim.{Refused}
use Rattle.runs.proofs.Standing.{Standing}

-- the same answer under conditions that say the same
pub answer_by : {X E : Type 0} (number : E → ℕ) (C D : ℕ → Type 0) (A : X → Type 0) → ((n : ℕ) → C n → D n) → ((n : ℕ) → D n → C n) →
    (r : Result X E) → Answer number C A r → Answer number D (λ _. Unit {0}) r
answer_by number C D A to from (Ok x) a = grind (arith, to, from)
answer_by number C D A to from (Err e) a = grind (arith, to, from)

-- without a cell, both or neither
pub same_without : (c : ℕ) (xs ys : List ℕ) → Same xs ys → Same (without c xs) (without c ys)
same_without c xs ys s = (go xs ys s.0, go ys xs s.1)
  where
    go : (xs ys : List ℕ) → Within xs ys → Within (without c xs) (without c ys)
    go xs ys w q k = let h = mem_of_kept (λ x. not (eqb x c)) q xs k in mem_kept (λ x. not (eqb x c)) (w q h.0) h.1

pub same_more : (c : ℕ) (xs ys : List ℕ) → Same xs ys → Same (c ∷ xs) (c ∷ ys)
same_more c xs ys s = (go xs ys s.0, go ys xs s.1)
  where
    go : (xs ys : List ℕ) → Within xs ys → Within (c ∷ xs) (c ∷ ys)
    go xs ys w q (here e) = here e
    go xs ys w q (there k) = there (w q k)

pub same_trans : {xs ys zs : List ℕ} → Same xs ys → Same ys zs → Same xs zs
same_trans s t = (λ c k. t.0 c (s.0 c k), λ c k. s.1 c (t.1 c k))

pub same_at : {xs ys : List ℕ} → xs ≡ ys → Same xs ys
same_at e = (λ c k. rw e at k, λ c k. rw (sym e) at k)

-- a cell that passes a test which no free cell passes is among those listed
module _ (d : List Record) (test : Record → Bool) (free : test Free ≡ false) (c : ℕ) where
  inside : test (record_at d c) ≡ true → c < length d
  inside t = grind (arith, get_or_past d c Free, free)

module _ (m : Meaning) (d : List Record) (b : Book) (S : Standing m d b) (c : ℕ) where
  pub pad_booked : first_at d c ≡ true → Mem c b.pads
  pad_booked t = S.pads.0 c (below_kept (first_at d) (length d) c (inside d is_first refl c t) t)

  pub booked_pad : Mem c b.pads → first_at d c ≡ true
  booked_pad k = (kept_below (first_at d) (length d) c (S.pads.1 c k)).1

  pub bar_booked : barred_at d c ≡ true → Mem c b.barred
  bar_booked t = S.barred.0 c (below_kept (barred_at d) (length d) c (inside d is_barred refl c t) t)

  pub booked_bar : Mem c b.barred → barred_at d c ≡ true
  booked_bar k = (kept_below (barred_at d) (length d) c (S.barred.1 c k)).1

  -- what can be met by the book can be met by the drawing, and the other way round
  place_met : CanBeMet m b.barred (c ∷ b.pads) → CanBeMet m (bars d) (c ∷ wired d)
  place_met L = linkage_for_less m _ _ _ _ (same_more c _ _ S.pads).0 S.barred.0 L

  place_met_booked : CanBeMet m (bars d) (c ∷ wired d) → CanBeMet m b.barred (c ∷ b.pads)
  place_met_booked L = linkage_for_less m _ _ _ _ (same_more c _ _ S.pads).1 S.barred.1 L

  bar_met : CanBeMet m (c ∷ b.barred) b.pads → CanBeMet m (c ∷ bars d) (wired d)
  bar_met L = linkage_for_less m _ _ _ _ S.pads.0 (same_more c _ _ S.barred).0 L

  bar_met_booked : CanBeMet m (c ∷ bars d) (wired d) → CanBeMet m (c ∷ b.barred) b.pads
  bar_met_booked L = linkage_for_less m _ _ _ _ S.pads.1 (same_more c _ _ S.barred).1 L

  module _ (work report : List ℕ) (n : ℕ) where
    pub lift_to_book : LiftRefused m d c n → Refused m b Lift c work report n
    lift_to_book h = grind (arith, booked_pad, S.lawful, S.lawful.one_each)

    pub lift_from_book : Refused m b Lift c work report n → LiftRefused m d c n
    lift_from_book h = grind (arith, pad_booked)

    pub clear_to_book : ClearRefused m d c n → Refused m b Clear c work report n
    clear_to_book h = grind (arith, booked_bar, S.lawful, S.lawful.one_each)

    pub clear_from_book : Refused m b Clear c work report n → ClearRefused m d c n
    clear_from_book h = grind (arith, bar_booked)

    pub place_to_book : PlaceRefused m d work report c n → Refused m b Place c work report n
    place_to_book h = grind (arith, pad_booked, bar_booked, place_met, S.lawful, S.lawful.one_each)

    pub place_from_book : Refused m b Place c work report n → PlaceRefused m d work report c n
    place_from_book h = grind (arith, booked_pad, booked_bar, place_met_booked)

    pub bar_to_book : BarRefused m d work report c n → Refused m b Bar c work report n
    bar_to_book h = grind (arith, pad_booked, bar_booked, bar_met, S.lawful, S.lawful.one_each)

    pub bar_from_book : Refused m b Bar c work report n → BarRefused m d work report c n
    bar_from_book h = grind (arith, booked_pad, booked_bar, bar_met_booked)
