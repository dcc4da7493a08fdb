-- What follows the first word, form by form.
use Rattle.std.proofs.Common.{◌≡◌, ℕ, cond, List, ◌∷◌, ◌++◌, Some, None, decimal, Option, sym, refl, ap, ◌∙◌, subst, arith}
use Rattle.std.specs.Option.{option_map}
use Rattle.std.specs.Str.{bytes_eq}
use Rattle.std.proofs.lemmas.Fmt.{decimal_injective}
use Rattle.job_lines.specs.declared.verb.Verb.{Verb}
use Rattle.job_lines.specs.declared.verb.Verb.TheVariants.{Field, Escape, Pad, Land, Keep, Place, Lift, Bar, Clear, Show}
use Rattle.job_lines.specs.Words.{Lacks, Name, Number, Reads}
use Rattle.job_lines.specs.Verbs.{keyword}
use Rattle.job_lines.specs.Grammar.{Form, field, escape, pad, land, keep, place, lift, bar, clear, show, spelled, WellFormed, SpellingsDiffer}
use Rattle.job_lines.specs.Rests.{Point, point_text, Cell, cell_text, PadPoint, pad_text, verb_of, rest_of}
use Rattle.job_lines.proofs.Cuts.{same_parts, one_cut}
use Rattle.job_lines.proofs.Spaceless.{keyword_lacks, number_lacks, name_lacks}

-- what is to be read after a verb: two numbers, three, a name and two numbers, or a name alone
pub data Shape : Type 0 where
  two : Shape
  three : Shape
  named : Shape
  alone : Shape

abbrev pub shape : Verb → Shape
shape Field = two
shape Escape = two
shape Pad = named
shape Land = two
shape Keep = three
shape Place = alone
shape Lift = alone
shape Bar = three
shape Clear = three
shape Show = alone

abbrev pub Rest : Shape → Type 0
Rest two = ℕ × ℕ
Rest three = ℕ × ℕ × ℕ
Rest named = List ℕ × ℕ × ℕ
Rest alone = List ℕ

abbrev pub Fits : (s : Shape) → Rest s → Type 0
Fits two = Point
Fits three = Cell
Fits named = PadPoint
Fits alone = Name

abbrev pub text_of : (s : Shape) → Rest s → List ℕ
text_of two = point_text
text_of three = cell_text
text_of named = pad_text
text_of alone = λ n. n

-- the line of a verb and what follows it
abbrev pub made : (v : Verb) → Rest (shape v) → Form
made Field = λ x. field x.0 x.1
made Escape = λ x. escape x.0 x.1
made Pad = λ x. pad x.0 x.1 x.2
made Land = λ x. land x.0 x.1
made Keep = λ x. keep x.0 x.1 x.2
made Place = λ x. place x
made Lift = λ x. lift x
made Bar = λ x. bar x.0 x.1 x.2
made Clear = λ x. clear x.0 x.1 x.2
made Show = λ x. show x

-- which has that verb and that rest
made_of : (v : Verb) (x : Rest (shape v)) → Fits (shape v) x → (verb_of (made v x) ≡ v) × WellFormed (made v x) × (text_of (shape v) x ≡ rest_of (made v x))
made_of Field x h = (refl, h, refl)
made_of Escape x h = (refl, h, refl)
made_of Pad x h = (refl, h, refl)
made_of Land x h = (refl, h, refl)
made_of Keep x h = (refl, h, refl)
made_of Place x h = (refl, h, refl)
made_of Lift x h = (refl, h, refl)
made_of Bar x h = (refl, h, refl)
made_of Clear x h = (refl, h, refl)
made_of Show x h = (refl, h, refl)

-- what a line has after its verb
abbrev parts : (f : Form) → Rest (shape (verb_of f))
parts (field r c) = (r, c)
parts (escape r c) = (r, c)
parts (pad n r c) = (n, r, c)
parts (land r c) = (r, c)
parts (keep l r c) = (l, r, c)
parts (place n) = n
parts (lift n) = n
parts (bar l r c) = (l, r, c)
parts (clear l r c) = (l, r, c)
parts (show n) = n

-- a line is its verb, a space and the rest
record IsOf (f : Form) (v : Verb) (x : Rest (shape v)) : Type 0 where
  made_again : made v x ≡ f
  fits : WellFormed f → Fits (shape v) x
  text : rest_of f ≡ text_of (shape v) x
  spelled_is : spelled f ≡ keyword v ++ 32 ∷ rest_of f

parts_of : (f : Form) → IsOf f (verb_of f) (parts f)
parts_of (field r c) = record { made_again = refl; fits = λ h. h; text = refl; spelled_is = refl }
parts_of (escape r c) = record { made_again = refl; fits = λ h. h; text = refl; spelled_is = refl }
parts_of (pad n r c) = record { made_again = refl; fits = λ h. h; text = refl; spelled_is = refl }
parts_of (land r c) = record { made_again = refl; fits = λ h. h; text = refl; spelled_is = refl }
parts_of (keep l r c) = record { made_again = refl; fits = λ h. h; text = refl; spelled_is = refl }
parts_of (place n) = record { made_again = refl; fits = λ h. h; text = refl; spelled_is = refl }
parts_of (lift n) = record { made_again = refl; fits = λ h. h; text = refl; spelled_is = refl }
parts_of (bar l r c) = record { made_again = refl; fits = λ h. h; text = refl; spelled_is = refl }
parts_of (clear l r c) = record { made_again = refl; fits = λ h. h; text = refl; spelled_is = refl }
parts_of (show n) = record { made_again = refl; fits = λ h. h; text = refl; spelled_is = refl }

pub spelled_is : (f : Form) → spelled f ≡ keyword (verb_of f) ++ 32 ∷ rest_of f
spelled_is f = (parts_of f).spelled_is

-- what is read after a verb is the rest of a line of that verb
pub rest_read : (verb v : Verb) (text : List ℕ) (x : Option (Rest (shape v))) (r : Option Form) → verb ≡ v → Reads (Fits (shape v)) (text_of (shape v)) text x →
    r ≡ option_map (made v) x → Reads (λ f. (verb_of f ≡ verb) × WellFormed f) rest_of text r
rest_read verb v text (Some x) r is h e =
    let m = made_of v x h.0 in
    rw e ((m.0 ∙ sym is, m.1), h.1 ∙ m.2)
rest_read verb v text None r is h e = rw e (λ f k t.
    let P : Verb → Type 0 = λ u. (x : Rest (shape u)) → Fits (shape u) x → text ≡ text_of (shape u) x → ⊥ in
    subst P (sym (k.0 ∙ is)) h (parts f) ((parts_of f).fits k.1) (t ∙ (parts_of f).text))

-- the verb of a keyword
abbrev verb_named : List ℕ → Verb
verb_named w =
    cond (bytes_eq w (keyword Field)) Field
    (cond (bytes_eq w (keyword Escape)) Escape
    (cond (bytes_eq w (keyword Pad)) Pad
    (cond (bytes_eq w (keyword Land)) Land
    (cond (bytes_eq w (keyword Keep)) Keep
    (cond (bytes_eq w (keyword Place)) Place
    (cond (bytes_eq w (keyword Lift)) Lift
    (cond (bytes_eq w (keyword Bar)) Bar
    (cond (bytes_eq w (keyword Clear)) Clear Show))))))))

keyword_named : (v : Verb) → verb_named (keyword v) ≡ v
keyword_named Field = refl
keyword_named Escape = refl
keyword_named Pad = refl
keyword_named Land = refl
keyword_named Keep = refl
keyword_named Place = refl
keyword_named Lift = refl
keyword_named Bar = refl
keyword_named Clear = refl
keyword_named Show = refl

-- one verb to a keyword
one_verb : (v w : Verb) → keyword v ≡ keyword w → v ≡ w
one_verb v w e = sym (keyword_named v) ∙ ap verb_named e ∙ keyword_named w

-- where a line's first word is no verb, it is no spelling of a well-formed line
pub line_unread : (bytes word rest : List ℕ) → Lacks 32 word × (bytes ≡ word ++ 32 ∷ rest) → ((v : Verb) → word ≡ keyword v → ⊥) →
    (f : Form) → WellFormed f → bytes ≡ spelled f → ⊥
line_unread bytes word rest h unknown f fit s =
    unknown (verb_of f) (same_parts 32 bytes word rest (keyword (verb_of f)) (rest_of f) h (keyword_lacks (verb_of f)) (s ∙ spelled_is f)).0

-- a line is read where its verb and its rest are
pub line_read : (bytes word rest : List ℕ) (v : Verb) (r : Option Form) → Lacks 32 word × (bytes ≡ word ++ 32 ∷ rest) → word ≡ keyword v
    → Reads (λ f. (verb_of f ≡ v) × WellFormed f) rest_of rest r → Reads WellFormed spelled bytes r
line_read bytes word rest v (Some f) h e k =
    let verb = ap keyword k.0.0 in
    let whole = spelled_is f in
    let whole' = h.1 in
    let rest' = k.1 in
    (k.0.1, cc)
line_read bytes word rest v None h e k = λ f fit s.
    let both = same_parts 32 bytes word rest (keyword (verb_of f)) (rest_of f) h (keyword_lacks (verb_of f)) (s ∙ spelled_is f) in
    k f (one_verb (verb_of f) v (sym both.0 ∙ e), fit) both.1

-- numbers that are written alike are the same, and so are points, cells and pads
same_number : (m n : ℕ) → Number m → Number n → decimal m ≡ decimal n → m ≡ n
same_number m n h k e = decimal_injective m n (omega arith) (omega arith) e

same_numbers : (a b c d : ℕ) → Point (a, b) → Point (c, d) → point_text (a, b) ≡ point_text (c, d) → (a ≡ c) × (b ≡ d)
same_numbers a b c d h k e =
    let both = one_cut 32 (decimal a) (decimal b) (decimal c) (decimal d) (number_lacks a h.0) (number_lacks c k.0) e in
    (same_number a c h.0 k.0 both.0, same_number b d h.1 k.1 both.1)

same_point : (x y : ℕ × ℕ) → Point x → Point y → point_text x ≡ point_text y → x ≡ y
same_point x y h k e =
    let numbers = same_numbers x.0 x.1 y.0 y.1 h k e in
    let pairs : ((x.0, x.1) ≡ x) × ((y.0, y.1) ≡ y) = (refl, refl) in
    cc

same_cell : (x y : ℕ × ℕ × ℕ) → Cell x → Cell y → cell_text x ≡ cell_text y → x ≡ y
same_cell x y h k e =
    let both = one_cut 32 (decimal x.0) (point_text (x.1, x.2)) (decimal y.0) (point_text (y.1, y.2)) (number_lacks x.0 h.0) (number_lacks y.0 k.0) e in
    let layer = same_number x.0 y.0 h.0 k.0 both.0 in
    let point = same_numbers x.1 x.2 y.1 y.2 (h.1, h.2) (k.1, k.2) both.1 in
    let triples : ((x.0, x.1, x.2) ≡ x) × ((y.0, y.1, y.2) ≡ y) = (refl, refl) in
    cc

same_pad : (x y : List ℕ × ℕ × ℕ) → PadPoint x → PadPoint y → pad_text x ≡ pad_text y → x ≡ y
same_pad x y h k e =
    let both = one_cut 32 x.0 (point_text (x.1, x.2)) y.0 (point_text (y.1, y.2)) (name_lacks x.0 h.0) (name_lacks y.0 k.0) e in
    let point = same_numbers x.1 x.2 y.1 y.2 (h.1, h.2) (k.1, k.2) both.1 in
    let triples : ((x.0, x.1, x.2) ≡ x) × ((y.0, y.1, y.2) ≡ y) = (refl, refl) in
    cc

same_rest : (s : Shape) (x y : Rest s) → Fits s x → Fits s y → text_of s x ≡ text_of s y → x ≡ y
same_rest two = same_point
same_rest three = same_cell
same_rest named = same_pad
same_rest alone = λ x y h k e. e

same_made : (v w : Verb) → v ≡ w → (x : Rest (shape v)) (y : Rest (shape w)) → Fits (shape v) x → Fits (shape w) y →
    text_of (shape v) x ≡ text_of (shape w) y → made v x ≡ made w y
same_made v w e x =
    let P : Verb → Type 0 = λ u. (y : Rest (shape u)) → Fits (shape v) x → Fits (shape u) y → text_of (shape v) x ≡ text_of (shape u) y → made v x ≡ made u y in
    subst P e (λ y h k t. ap (made v) (same_rest (shape v) x y h k t))

pub spellings_differ : SpellingsDiffer
spellings_differ f g h k e =
    let p = parts_of f in
    let q = parts_of g in
    let both = one_cut 32 (keyword (verb_of f)) (rest_of f) (keyword (verb_of g)) (rest_of g) (keyword_lacks (verb_of f)) (keyword_lacks (verb_of g)) (sym p.spelled_is ∙ e ∙ q.spelled_is) in
    sym p.made_again
    ∙ same_made (verb_of f) (verb_of g) (one_verb (verb_of f) (verb_of g) both.0) (parts f) (parts g) (p.fits h) (q.fits k) (sym p.text ∙ both.1 ∙ q.text)
    ∙ q.made_again
