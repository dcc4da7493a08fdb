-- How a call is refused: every condition has a number, and the number given is the first, in rising order, whose condition holds.
use Rattle.std.specs.Prelude.{ℕ, ◌<◌, Ok, Err, Result}

-- n is the first number whose condition holds
abbrev pub First : (ℕ → Type 0) → ℕ → Type 0
First C n = C n × ((k : ℕ) → k < n → C k → ⊥)

-- no condition holds
abbrev pub NoneHolds : (ℕ → Type 0) → Type 0
NoneHolds C = (k : ℕ) → C k → ⊥

-- an answer where the refusals have numbers and C k is the condition of number k:
-- accepted, with A of what is given back, exactly if no condition holds, and else refused with the first number
abbrev pub Answer : {X E : Type 0} → (E → ℕ) → (ℕ → Type 0) → (X → Type 0) → Result X E → Type 0
Answer number C A (Ok x) = NoneHolds C × A x
Answer number C A (Err e) = First C (number e)
