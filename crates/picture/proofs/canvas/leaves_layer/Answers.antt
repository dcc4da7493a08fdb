use Rattle.std.proofs.Common.{◌≡◌, ℕ, ◌<◌, Some, Bool, true, false, length, Decides, MatchBool, ◌≢◌, sym, refl, ◌∙◌, subst, zero-add, arith, rules}
use Rattle.std.specs.List.{HoldsAt, AllWithin, range_with_len}
use Rattle.std.proofs.lemmas.Iterator.{cases_from_any, YieldsList-from_range}
use Rattle.std.proofs.lemmas.List.FromFn.{length-range_with_len, get_or-range_with_len}
use Rattle.std.proofs.lemmas.Bool.{false≢true}
use Rattle.boards.specs.declared.place.Place.{Place}
use Rattle.boards.specs.Meaning.{outlet_at, outlets_of}
use Rattle.boards.specs.Lists.{at_some}
use Rattle.boards.specs.Places.{place_at}
use Rattle.picture.proofs.canvas.leaves_layer.Goals as goal

-- what `any` answers over the numbers below n
decides_below : (P : ℕ → Type 0) (n : ℕ) (r : Bool) →
    MatchBool r ((k : ℕ) × (k < length (range_with_len 0 n)) × HoldsAt P (range_with_len 0 n) k)
    (AllWithin (λ k. P k → ⊥) (range_with_len 0 n) 0 (length (range_with_len 0 n))) →
    Decides r ((k : ℕ) × (k < n) × P k)
decides_below P n true h =
    let below : h.0 < n = omega (arith, length-range_with_len 0 n, h.1) in
    (λ _. (h.0, below, subst P (get_or-range_with_len 0 n h.0 0 below ∙ zero-add h.0) (h.2 0)), λ _. refl)
decides_below P n false h = (
  λ e. absurd (false≢true e),
  λ w. absurd (h w.0 0 (omega arith) (omega (arith, length-range_with_len 0 n, w.1))
      (subst P (sym (get_or-range_with_len 0 n w.0 0 w.1 ∙ zero-add w.0)) w.2)),
)

pub returns : goal.returns
returns g c =
    let m = g.B.Board.meaning c.args.board.now in
    let ps = g.B.PlacedBoard.places c.args.board.now in
    let leads : ℕ → Type 0 = λ j. (d : ℕ) × (q : Place) × (outlet_at m c.args.cell j ≡ Some d) × (place_at ps d ≡ Some q) × (q.layer ≢ c.args.layer) in
    let some = decides_below leads 8 _ (cases_from_any _ _ _ leads (λ j. leads j → ⊥) c.any.ensures.ran
    (YieldsList-from_range 0 8 8 (cc) refl) (λ j q k. search rules) (λ j q k. (search rules, search rules))) in (
      λ e. let w = some.0 e in (w.0, w.2.0, w.2.1, w.2.2, w.2.3, w.2.4),
      λ w.
          let j = (at_some (outlets_of m c.args.cell) w.0 w.1 w.3).0 in
          let few = (g.met.B.Board.bounded c.args.board.now).few_outlets c.args.cell in
          some.1 (w.0, omega (arith, few, j), (w.1, w.2, w.3, w.4, w.5)),
    )
