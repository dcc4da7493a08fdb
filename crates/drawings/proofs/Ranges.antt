-- What `any` and `all` over the numbers below n decide.
use Rattle.std.proofs.Common.{◌≡◌, ℕ, ◌<◌, Bool, true, false, length, get_or, MatchBool, Decides, refl, sym, subst, arith}
use Rattle.std.specs.List.{range_with_len, HoldsAt, AllWithin}
use Rattle.std.proofs.lemmas.Bool.{false≢true}
use Rattle.std.proofs.lemmas.List.FromFn.{length-range_with_len, get_or-range_with_len}

at_range : (n k d : ℕ) → k < n → get_or (range_with_len 0 n) k d ≡ k
at_range n k d h = omega (arith, get_or-range_with_len 0 n k d h)

pub any_below : (r : Bool) (n : ℕ) (Yes : ℕ → Type 0) →
    MatchBool r ((k : ℕ) × (k < length (range_with_len 0 n)) × HoldsAt Yes (range_with_len 0 n) k) (AllWithin (λ k. Yes k → ⊥) (range_with_len 0 n) 0 (length (range_with_len 0 n))) →
    Decides r ((k : ℕ) × (k < n) × Yes k)
any_below true n Yes h =
    let l : h.0 < n = omega (arith, h.1, length-range_with_len 0 n) in (λ e. (h.0, l, subst Yes (at_range n h.0 0 l) (h.2 0)), λ w. refl)
any_below false n Yes h = (
  λ e. absurd (false≢true e),
  λ w. absurd (h w.0 0 (omega arith) (omega (arith, w.1, length-range_with_len 0 n)) (subst Yes (sym (at_range n w.0 0 w.1)) w.2)),
)

pub all_below : (r : Bool) (n : ℕ) (Yes : ℕ → Type 0) →
    MatchBool r (AllWithin Yes (range_with_len 0 n) 0 (length (range_with_len 0 n))) ((k : ℕ) × (k < length (range_with_len 0 n)) × HoldsAt (λ k. Yes k → ⊥) (range_with_len 0 n) k) →
    Decides r ((k : ℕ) → k < n → Yes k)
all_below true n Yes h = (λ e k l. subst Yes (at_range n k 0 l) (h k 0 (omega arith) (omega (arith, l, length-range_with_len 0 n))), λ w. refl)
all_below false n Yes h =
    let l : h.0 < n = omega (arith, h.1, length-range_with_len 0 n) in (
      λ e. absurd (false≢true e),
      λ w. absurd (h.2 0 (subst Yes (sym (at_range n h.0 0 l)) (w h.0 l))),
    )
