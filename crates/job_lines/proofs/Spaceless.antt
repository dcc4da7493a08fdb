-- No space stands in a number, in a name or in the first word of a line.
use Rattle.std.proofs.Common.{◌≡◌, ℕ, List, decimal, ⊎_elim, arith, rules}
use Rattle.std.proofs.lemmas.Fmt.{digits_decimal}
use Rattle.std.proofs.ByRecursion.{All-from_get_or, All-weaker}
use Rattle.std.proofs.lemmas.Str.Parse.{digit_at}
use Rattle.job_lines.specs.declared.verb.Verb.{Verb}
use Rattle.job_lines.specs.declared.verb.Verb.TheVariants.{Field, Escape, Pad, Land, Keep, Place, Lift, Bar, Clear, Show}
use Rattle.job_lines.specs.Words.{Lacks, Number, Name, NameByte}
use Rattle.job_lines.specs.Verbs.{keyword}
use Rattle.job_lines.proofs.Digits.{own}

pub number_lacks : (n : ℕ) → Number n → Lacks 32 (decimal n)
number_lacks n h =
    All-from_get_or (λ x. x ≡ 32 → ⊥) (decimal n) 0
    (λ i in' e. let d = digit_at (decimal n) i (digits_decimal own n (omega arith)) in' in omega arith)

pub name_lacks : (word : List ℕ) → Name word → Lacks 32 word
name_lacks word h = All-weaker NameByte (λ x. x ≡ 32 → ⊥) (λ x k e. ⊎_elim (λ d. omega arith) (λ l. omega arith) k) word h.bytes

pub keyword_lacks : (v : Verb) → Lacks 32 (keyword v)
keyword_lacks Field = search rules
keyword_lacks Escape = search rules
keyword_lacks Pad = search rules
keyword_lacks Land = search rules
keyword_lacks Keep = search rules
keyword_lacks Place = search rules
keyword_lacks Lift = search rules
keyword_lacks Bar = search rules
keyword_lacks Clear = search rules
keyword_lacks Show = search rules
