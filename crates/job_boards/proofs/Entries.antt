-- Lines that are entered, by their forms.
use Rattle.std.proofs.Common.{◌≡◌, ℕ, List, Some, None, Ok, Err, Option, Result, subst}
use Rattle.std.specs.Option.{ok_or}
use Rattle.boards.specs.declared.maps.MapKind.{MapKind}
use Rattle.job_lines.specs.declared.faults.LineFault.{LineFault}
use Rattle.job_lines.specs.declared.faults.LineFault.TheVariants.{NoForm}
use Rattle.job_lines.specs.declared.line.Line.{Line}
use Rattle.job_lines.specs.Grammar.{Form, form_of, ReadsLine}
use Rattle.job_boards.specs.declared.entering.Stop.{Stop}
use Rattle.job_boards.specs.declared.entering.Stop.TheVariants.{Fault, Call, Memory}
use Rattle.job_boards.specs.Plans.{Named, Plan}
use Rattle.job_boards.specs.Faults.{Says, Stage, Faulty, no_form, wrong}
use Rattle.job_boards.specs.Reading.{BoardForm, Entered, LineEntered}

pub same_plan : (kind : MapKind) (R C : ℕ) {map map' : List ℕ} {pads pads' : List Named} {kept kept' : List ℕ} →
    map ≡ map' → pads ≡ pads' → kept ≡ kept' →
    ◌≡◌ {A = Plan} (record { kind = kind; rows = R; columns = C; map = map; pads = pads; kept = kept }) (record { kind = kind; rows = R; columns = C; map = map'; pads = pads'; kept = kept' })
same_plan kind R C a b c = cc

pub line_entered : (p q : Plan) (bytes : List ℕ) (f : Form) (r : Result (Unit {0}) Stop) → Says bytes f → BoardForm f → Entered p q f r →
    LineEntered p q bytes r
line_entered p q bytes f (Ok x) says b e = (f, record { says = says; right = e.0 }, b, e.1)
line_entered p q bytes f (Err (Fault k)) says b e = (wrong says e.0, e.1)
line_entered p q bytes f (Err Call) says b e = absurd e
line_entered p q bytes f (Err Memory) says b e = tt

-- the form of a line that was read, and the fault of one that was not
pub read : (bytes : List ℕ) (o : Option Line) (l : Line) → ReadsLine bytes o → o ≡ Some l → Says bytes (form_of l)
read bytes o l r e = let P : Option Line → Type 0 = ReadsLine bytes in let h = subst P e r in record { fits = h.0; reads = h.1 }

pub unread : (s : Stage) (bytes : List ℕ) (o : Option Line) (k : LineFault) → ReadsLine bytes o → Err k ≡ ok_or o NoForm → Faulty s bytes k
unread s bytes (Some l) k r e = absurd (cc)
unread s bytes None k r e =
    let F : LineFault → Type 0 = Faulty s bytes in
    let is : NoForm ≡ k = cc in
    subst F is (no_form (λ f says. r f says.fits says.reads))
