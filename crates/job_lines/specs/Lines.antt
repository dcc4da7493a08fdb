-- The lines of a text: each ends with LF, byte 10; the last LF may be missing.
use Rattle.std.specs.Prelude.{◌≡◌, ℕ, ◌<◌, cond, ◌⊎◌, List, [], ◌∷◌, ◌++◌, length, Some, None, Option, ◌==◌}
use Rattle.std.specs.Borrow.{Bor}
use Rattle.std.specs.List.{AllByRecursion}
use Rattle.job_lines.specs.Words.{Lacks}

-- one byte more at the front of the first line
abbrev pub begins : ℕ → List (List ℕ) → List (List ℕ)
begins b [] = (b ∷ []) ∷ []
begins b (line ∷ lines) = (b ∷ line) ∷ lines

-- no bytes are no line; LF ends a line
abbrev pub lines_of : List ℕ → List (List ℕ)
lines_of [] = []
lines_of (b ∷ text) = cond (b == 10) ([] ∷ lines_of text) (begins b (lines_of text))

-- the first line of a text, and what follows its LF
pub record FirstLine (text line rest : List ℕ) : Type 0 where
  pub whole : Lacks 10 line
  pub parts : (text ≡ line ++ 10 ∷ rest) ⊎ ((text ≡ line) × (rest ≡ []))
  pub first : lines_of text ≡ line ∷ lines_of rest
  pub shorter : length rest < length text

abbrev pub Next : List ℕ → Option (Bor (List ℕ) × Bor (List ℕ)) → Type 0
Next text (Some parts) = FirstLine text parts.0.now parts.1.now
Next text None = text ≡ []

-- lines written one after another, each with its LF
abbrev pub ended : List (List ℕ) → List ℕ
ended [] = []
ended (line ∷ lines) = line ++ 10 ∷ ended lines

-- they are the lines of that text, also where some bytes with no LF follow, which are the last line
pub record LinesComeBack : Type 0 where
  pub with_the_last : (lines : List (List ℕ)) → AllByRecursion (Lacks 10) lines → lines_of (ended lines) ≡ lines
  pub without_it : (lines : List (List ℕ)) (last : List ℕ) → AllByRecursion (Lacks 10) lines → Lacks 10 last → 0 < length last → lines_of (ended lines ++ last) ≡ lines ++ last ∷ []
