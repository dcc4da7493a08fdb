-- What follows the first word of a line and its space.
use Rattle.std.specs.Prelude.{◌≡◌, ℕ, List, [], ◌∷◌, ◌++◌, decimal, Option}
use Rattle.std.specs.Borrow.{Bor}
use Rattle.std.specs.Option.{option_map}
use Rattle.job_lines.specs.declared.line.Line.{Line}
use Rattle.job_lines.specs.declared.verb.Verb.{Verb}
use Rattle.job_lines.specs.declared.verb.Verb.TheVariants.{Field, Escape, Pad, Land, Keep, Place, Lift, Bar, Clear, Show}
use Rattle.job_lines.specs.Words.{Number, Name, Reads}
use Rattle.job_lines.specs.Grammar.{Form, field, escape, pad, land, keep, place, lift, bar, clear, show, words, spaced, WellFormed, form_of}

-- two numbers
abbrev pub Point : ℕ × ℕ → Type 0
Point p = Number p.0 × Number p.1

abbrev pub point_text : ℕ × ℕ → List ℕ
point_text p = decimal p.0 ++ 32 ∷ decimal p.1

-- three numbers
abbrev pub Cell : ℕ × ℕ × ℕ → Type 0
Cell p = Number p.0 × Number p.1 × Number p.2

abbrev pub cell_text : ℕ × ℕ × ℕ → List ℕ
cell_text p = decimal p.0 ++ 32 ∷ point_text (p.1, p.2)

-- a name and two numbers
abbrev pub PadPoint : List ℕ × ℕ × ℕ → Type 0
PadPoint p = Name p.0 × Number p.1 × Number p.2

abbrev pub pad_text : List ℕ × ℕ × ℕ → List ℕ
pad_text p = p.0 ++ 32 ∷ point_text (p.1, p.2)

abbrev pub pad_of : Bor (List ℕ) × ℕ × ℕ → List ℕ × ℕ × ℕ
pad_of p = (p.0.now, p.1, p.2)

-- the first word, as a verb
abbrev pub verb_of : Form → Verb
verb_of (field r c) = Field
verb_of (escape r c) = Escape
verb_of (pad n r c) = Pad
verb_of (land r c) = Land
verb_of (keep l r c) = Keep
verb_of (place n) = Place
verb_of (lift n) = Lift
verb_of (bar l r c) = Bar
verb_of (clear l r c) = Clear
verb_of (show n) = Show

-- the words after the first
abbrev pub later : List (List ℕ) → List (List ℕ)
later [] = []
later (w ∷ ws) = ws

abbrev pub rest_of : Form → List ℕ
rest_of f = spaced (later (words f))

-- the answer to what follows a verb
abbrev pub ReadsRest : Verb → List ℕ → Option Line → Type 0
ReadsRest v text r = Reads (λ f. (verb_of f ≡ v) × WellFormed f) rest_of text (option_map form_of r)
