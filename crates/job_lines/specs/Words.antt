-- Words: numbers, names, and the cutting of a text at a byte.
use Rattle.std.specs.Prelude.{◌≡◌, ℕ, ◌<◌, ◌≤◌, ◌⊎◌, List, ◌∷◌, ◌++◌, length, Some, None, codes, Option, ◌≢◌, slice_index}
use Rattle.std.specs.Borrow.{Bor}
use Rattle.std.specs.List.{AllByRecursion}

-- the byte b stands nowhere in the text
abbrev pub Lacks : ℕ → List ℕ → Type 0
Lacks b text = AllByRecursion (λ x. x ≢ b) text

-- a text cut at its first b: the part before it and the part after it; or b stands nowhere
abbrev pub Cut : ℕ → List ℕ → Option (Bor (List ℕ) × Bor (List ℕ)) → Type 0
Cut b text (Some parts) = Lacks b parts.0.now × (text ≡ parts.0.now ++ b ∷ parts.1.now)
Cut b text None = Lacks b text

-- reading is the inverse of writing: what is read is fit to be written and the text is its writing; where nothing is read,
-- the text is the writing of nothing that is fit
abbrev pub Reads : {X : Type 0} → (X → Type 0) → (X → List ℕ) → List ℕ → Option X → Type 0
Reads Fit written text (Some x) = Fit x × (text ≡ written x)
Reads {X} Fit written text None = (x : X) → Fit x → text ≢ written x

-- numbers have at most four digits
abbrev pub Number : ℕ → Type 0
Number n = n < 10000

-- the word begins with a digit, and with 0 only if it is 0
abbrev pub StartsNumber : List ℕ → Type 0
StartsNumber word = (word ≡ codes "0") ⊎ ((49 ≤ slice_index word 0) × (slice_index word 0 ≤ 57))

-- a capital letter or a digit
abbrev pub NameByte : ℕ → Type 0
NameByte b = ((48 ≤ b) × (b ≤ 57)) ⊎ ((65 ≤ b) × (b ≤ 90))

-- a name has one to eight of them
pub record Name (word : List ℕ) : Type 0 where
  pub some : 1 ≤ length word
  pub few : length word ≤ 8
  pub bytes : AllByRecursion NameByte word
