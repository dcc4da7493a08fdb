-- The grammar, as the writing of lines.
use Rattle.std.specs.Prelude.{◌≡◌, ℕ, List, [], ◌∷◌, ◌++◌, codes, decimal, Option}
use Rattle.std.specs.Option.{option_map}
use Rattle.job_lines.specs.declared.line.Line.{Line}
use Rattle.job_lines.specs.declared.line.Line.TheVariants as line
use Rattle.job_lines.specs.Words.{Number, Name, Reads}

-- what a line says, with its name as plain bytes
pub data Form : Type 0 where
  field : (rows columns : ℕ) → Form
  escape : (rows columns : ℕ) → Form
  pad : (name : List ℕ) (row column : ℕ) → Form
  land : (row column : ℕ) → Form
  keep : (layer row column : ℕ) → Form
  place : (name : List ℕ) → Form
  lift : (name : List ℕ) → Form
  bar : (layer row column : ℕ) → Form
  clear : (layer row column : ℕ) → Form
  show : (name : List ℕ) → Form

-- the words of a line
abbrev pub words : Form → List (List ℕ)
words (field r c) = codes "field" ∷ decimal r ∷ decimal c ∷ []
words (escape r c) = codes "escape" ∷ decimal r ∷ decimal c ∷ []
words (pad n r c) = codes "pad" ∷ n ∷ decimal r ∷ decimal c ∷ []
words (land r c) = codes "land" ∷ decimal r ∷ decimal c ∷ []
words (keep l r c) = codes "keep" ∷ decimal l ∷ decimal r ∷ decimal c ∷ []
words (place n) = codes "place" ∷ n ∷ []
words (lift n) = codes "lift" ∷ n ∷ []
words (bar l r c) = codes "bar" ∷ decimal l ∷ decimal r ∷ decimal c ∷ []
words (clear l r c) = codes "clear" ∷ decimal l ∷ decimal r ∷ decimal c ∷ []
words (show n) = codes "show" ∷ n ∷ []

-- words with one space, byte 32, between each and the next
abbrev pub spaced : List (List ℕ) → List ℕ
spaced [] = []
spaced (w ∷ []) = w
spaced (w ∷ v ∷ ws) = w ++ 32 ∷ spaced (v ∷ ws)

-- the bytes of a line, without its LF
abbrev pub spelled : Form → List ℕ
spelled f = spaced (words f)

-- numbers and names are those of the language
abbrev pub WellFormed : Form → Type 0
WellFormed (field r c) = Number r × Number c
WellFormed (escape r c) = Number r × Number c
WellFormed (pad n r c) = Name n × Number r × Number c
WellFormed (land r c) = Number r × Number c
WellFormed (keep l r c) = Number l × Number r × Number c
WellFormed (place n) = Name n
WellFormed (lift n) = Name n
WellFormed (bar l r c) = Number l × Number r × Number c
WellFormed (clear l r c) = Number l × Number r × Number c
WellFormed (show n) = Name n

-- what a line of the code says
abbrev pub form_of : Line → Form
form_of (line.Field r c) = field r c
form_of (line.Escape r c) = escape r c
form_of (line.Pad n r c) = pad n.now r c
form_of (line.Land r c) = land r c
form_of (line.Keep l r c) = keep l r c
form_of (line.Place n) = place n.now
form_of (line.Lift n) = lift n.now
form_of (line.Bar l r c) = bar l r c
form_of (line.Clear l r c) = clear l r c
form_of (line.Show n) = show n.now

-- what the reader answers to the bytes of a line
abbrev pub ReadsLine : List ℕ → Option Line → Type 0
ReadsLine bytes r = Reads WellFormed spelled bytes (option_map form_of r)

-- no two well-formed lines have the same spelling
abbrev pub SpellingsDiffer : Type 0
SpellingsDiffer = (f g : Form) → WellFormed f → WellFormed g → spelled f ≡ spelled g → f ≡ g
