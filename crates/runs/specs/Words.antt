-- The word that a call is written by.
use Rattle.std.specs.Prelude.{◌≡◌, ℕ, List, Some, codes, Option}
use Rattle.runs.specs.declared.calls.Kind.{Kind}
use Rattle.runs.specs.declared.calls.Kind.TheVariants.{Place, Lift, Bar, Clear}

abbrev pub word_of : Kind → List ℕ
word_of Place = codes "place"
word_of Lift = codes "lift"
word_of Bar = codes "bar"
word_of Clear = codes "clear"

-- reading a word gives a kind exactly if the word is that kind's
abbrev pub ReadsKind : List ℕ → Option Kind → Type 0
ReadsKind word r = (kind : Kind) → (r ≡ Some kind → word ≡ word_of kind) × (word ≡ word_of kind → r ≡ Some kind)

-- what is said of a word by which no call is written
abbrev pub unknown_word : List ℕ
unknown_word = codes "no call is written by this word"
