-- First lines.
use Rattle.std.proofs.Common.{◌≡◌, ℕ, List, Ok, Err, Result, refl, subst, inl, inr}
use Rattle.boards.specs.declared.maps.MapKind.{MapKind}
use Rattle.boards.specs.declared.maps.MapKind.TheVariants.{FieldMap, EscapeMap}
use Rattle.boards.specs.Maps.{SidesAllowed}
use Rattle.job_lines.specs.declared.faults.LineFault.{LineFault}
use Rattle.job_lines.specs.declared.faults.LineFault.TheVariants.{Sides, OutOfPlace}
use Rattle.job_lines.specs.declared.line.Line.{Line}
use Rattle.job_lines.specs.declared.line.Line.TheVariants as line
use Rattle.job_lines.specs.Grammar.{form_of}
use Rattle.job_boards.specs.declared.header.Header.{Header}
use Rattle.job_boards.specs.Faults.{Says, first_line, Wrong, FirstIn, NoneIn, checks, Good, Faulty, wrong}
use Rattle.job_boards.specs.Reading.{header_form, Sided, Headed}

none_wrong : (kind : MapKind) (R C : ℕ) → SidesAllowed R C → NoneIn checks (Wrong first_line (header_form kind R C))
none_wrong FieldMap R C s = (λ x. x, (λ x. x, (λ n. n s, (λ x. x, tt))))
none_wrong EscapeMap R C s = (λ x. x, (λ x. x, (λ n. n s, (λ x. x, tt))))

wrong_sides : (kind : MapKind) (R C : ℕ) (k : LineFault) → (SidesAllowed R C → ⊥) → k ≡ Sides → FirstIn checks (Wrong first_line (header_form kind R C)) k
wrong_sides FieldMap R C k n e = inr (λ x. x, inr (λ x. x, inl (e, n)))
wrong_sides EscapeMap R C k n e = inr (λ x. x, inr (λ x. x, inl (e, n)))

pub headed_by : (bytes : List ℕ) (kind : MapKind) (R C : ℕ) (r : Result Header LineFault) → Says bytes (header_form kind R C) →
    Sided kind R C r → Headed bytes r
headed_by bytes kind R C (Ok h) says s =
    let k = s.1 in
    let rows = s.2 in
    let columns = s.3 in
    let e : header_form kind R C ≡ header_form h.kind h.rows h.columns = cc in
    subst (Good first_line bytes) e (record { says = says; right = none_wrong kind R C s.0 })
headed_by bytes kind R C (Err k) says s = wrong says (wrong_sides kind R C k s.0 s.1)

pub no_header : (bytes : List ℕ) (l : Line) → Says bytes (form_of l) → ((R C : ℕ) → l ≡ line.Field R C → ⊥) →
    ((R C : ℕ) → l ≡ line.Escape R C → ⊥) → Faulty first_line bytes OutOfPlace
no_header bytes (line.Field R C) says f e = absurd (f R C refl)
no_header bytes (line.Escape R C) says f e = absurd (e R C refl)
no_header bytes (line.Pad n r c) says f e = wrong says (inl (refl, tt))
no_header bytes (line.Land r c) says f e = wrong says (inl (refl, tt))
no_header bytes (line.Keep l r c) says f e = wrong says (inl (refl, tt))
no_header bytes (line.Place n) says f e = wrong says (inl (refl, tt))
no_header bytes (line.Lift n) says f e = wrong says (inl (refl, tt))
no_header bytes (line.Bar l r c) says f e = wrong says (inl (refl, tt))
no_header bytes (line.Clear l r c) says f e = wrong says (inl (refl, tt))
no_header bytes (line.Show n) says f e = wrong says (inl (refl, tt))
