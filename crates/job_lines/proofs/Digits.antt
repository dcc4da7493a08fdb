-- Digits, and the numbers that they write.
use Rattle.std.proofs.Common.{◌≡◌, ℕ, ◌<◌, ◌≤◌, List, [], ◌∷◌, length, get_or, take, Some, None, Option, MatchOption, decimal, sym, ap, ◌∙◌, ⊎_elim, inl, inr, arith, length-take}
use Rattle.std.specs.Char.{digit_value}
use Rattle.std.specs.Str.Parse.{AllDigits, digits_value}
use Rattle.std.proofs.lemmas.Fmt.{length-decimal-le, decimal_digit, decimal_nonempty, first_decimal, digits_decimal, decimal-digits_value}
use Rattle.std.proofs.lemmas.Str.{digit_value_digit}
use Rattle.std.proofs.lemmas.Str.Parse.{IsNumeralModel, numerals_by_value, tells_digits, digit_at, digits_value_short}
use Rattle.std.proofs.lemmas.Bool.{cases_eq}
use Rattle.job_lines.specs.Words.{Number, Reads, StartsNumber}

pub own : IsNumeralModel (AllDigits 10) (digits_value 10)
own = numerals_by_value (AllDigits 10) tells_digits

-- a number has at most four digits
pub number_short : (n : ℕ) → Number n → length (decimal n) ≤ 4
number_short n h = length-decimal-le 4 n (omega arith) (omega arith) (omega arith)

-- and begins as a number does
pub number_starts : (n : ℕ) → Number n → StartsNumber (decimal n)
number_starts n h =
    ⊎_elim
    (λ z. inl (rw z (decimal_digit 0 (omega arith))))
    (λ nz. inr (
      omega (arith, first_decimal n (omega arith) (omega arith)),
      (digit_at (decimal n) 0 (digits_decimal own n (omega arith)) (decimal_nonempty n (omega arith))).1,
    ))
    (cases_eq n 0)

-- and each of its bytes is a digit
pub number_digit : (n i : ℕ) → Number n → i < length (decimal n) → digit_value (get_or (decimal n) i 0) < 10
number_digit n i h in' =
    let d = digit_at (decimal n) i (digits_decimal own n (omega arith)) in' in
    omega (arith, d, digit_value_digit (get_or (decimal n) i 0) d)

-- what stands before one of four digits is below a thousand
pub digits_before : (word : List ℕ) (i : ℕ) → i < length word → length word ≤ 4 → AllDigits 10 (take i word) → digits_value 10 (take i word) < 1000
digits_before word i in' short digits = digits_value_short own (take i word) 3 digits (omega (arith, length-take i word))

starts_some : (word : List ℕ) → StartsNumber word → 0 < length word
starts_some [] (inl e) = cc
starts_some [] (inr d) = omega arith
starts_some (x ∷ word) starts = omega arith

-- where a word of at most four digits begins so, their value is the number that it writes
pub digits_written : (word : List ℕ) (n : ℕ) → length word ≤ 4 → StartsNumber word → AllDigits 10 word → n ≡ digits_value 10 word → Number n × (word ≡ decimal n)
digits_written word n short starts digits is =
    let below = digits_value_short own word 4 digits short in
    let one : get_or word 0 0 ≡ 48 → length word ≡ 1 = λ z. ⊎_elim (λ e. ap length e) (λ d. absurd (omega arith)) starts in
    let back = decimal-digits_value own word digits (starts_some word starts) one (omega arith) in
    (omega (arith, is), sym (ap decimal is ∙ back))

-- the value of digits with no leading zero is the number that they write
pub number_read : (word : List ℕ) (r : Option ℕ) → 0 < length word → length word ≤ 4 → (1 < length word → get_or word 0 0 ≡ 48 → ⊥)
    → MatchOption r (AllDigits 10 word → ⊥) (λ n. AllDigits 10 word × (n ≡ digits_value 10 word)) → Reads Number decimal word r
number_read word (Some n) some short lead h =
    let below = digits_value_short own word 4 h.0 short in
    let one : get_or word 0 0 ≡ 48 → length word ≡ 1 = λ e. ⊎_elim (λ k. k) (λ k. absurd (lead (omega arith) e)) (cases_eq (length word) 1) in
    let back = decimal-digits_value own word h.0 some one (omega arith) in
    (omega (arith, h.1), sym (ap decimal h.1 ∙ back))
number_read word None some short lead h =
    λ n fit e. h (rw e (digits_decimal own n (omega arith)))
