-- Reading the lines about the board, one after another.
use Rattle.std.proofs.Common.{◌≡◌, ℕ, suc, ◌+◌, ◌≤◌, List, [], length, Some, None, Ok, Err, Option, sym, subst, add-one, arith}
use Rattle.job_lines.specs.declared.faults.LineFault.{LineFault}
use Rattle.job_lines.specs.Lines.{lines_of, FirstLine}
use Rattle.job_boards.specs.Plans.{Plan}
use Rattle.job_boards.specs.Reading.{LineEntered, Reaches, here, more, Over, Stops}
use Rattle.job_boards.specs.declared.entering.Stop.TheVariants.{Fault, Call}

-- k lines of the text are read, the plan is p then, and the rest is to come
abbrev pub ReadTo : Plan → List ℕ → ℕ → Plan → List ℕ → Type 0
ReadTo start text k p rest = Reaches start (lines_of text) k p (lines_of rest) × (k + length rest ≤ length text)

module _ (start : Plan) (text : List ℕ) where
  pub read_none : ReadTo start text 0 start text
  read_none = (here, omega arith)

  pub read_more : (k : ℕ) (p q : Plan) (rest line left : List ℕ) (x : Unit {0}) → FirstLine rest line left → LineEntered p q line (Ok x) →
      ReadTo start text k p rest → ReadTo start text (k + 1) q left
  read_more k p q rest line left x first e h =
      let P : List (List ℕ) → Type 0 = λ lines. Reaches start (lines_of text) k p lines in
      let Q : ℕ → Type 0 = λ n. Reaches start (lines_of text) n q (lines_of left) in
      let R : Plan → Type 0 = λ r. Reaches start (lines_of text) (suc k) r (lines_of left) in
      let reaches = subst Q (sym (add-one k)) (subst R (sym e.3) (more (subst P first.first h.0) e.1 e.2)) in
      let shorter = first.shorter in
      (reaches, omega (arith, h.1))

-- how the reading ends, with the plan p and so much to come
module _ (start : Plan) (text : List ℕ) (k : ℕ) (p : Plan) (rest : List ℕ) (so_far : ReadTo start text k p rest) where
  abbrev pub Ended : Plan → Option LineFault → Type 0
  Ended q o = ReadTo start text k q rest × Stops q (lines_of rest) o

  pub no_line : rest ≡ [] → Ended p None
  no_line e = let P : List ℕ → Type 0 = λ xs. Over (lines_of xs) in (so_far, subst P (sym e) tt)

  module _ (q : Plan) (line left : List ℕ) (first : FirstLine rest line left) where
    pub at_call : LineEntered p q line (Err Call) → Ended q None
    at_call e = let P : Plan → Type 0 = λ x. Ended x None in subst P (sym e.3) (so_far, subst Over (sym first.first) (e.0, e.1, e.2))

    pub at_fault : (f : LineFault) → LineEntered p q line (Err (Fault f)) → Ended q (Some f)
    at_fault f e =
        let P : Plan → Type 0 = λ x. Ended x (Some f) in
        let Q : List (List ℕ) → Type 0 = λ lines. Stops p lines (Some f) in
        subst P (sym e.1) (so_far, subst Q (sym first.first) e.0)
