-- Jobs from their parts: the first line, the board, the calls.
use Rattle.std.proofs.Common.{◌≡◌, ℕ, ◌+◌, List, [], ◌∷◌, Some, None, Option, subst}
use Rattle.boards.specs.declared.maps.MapKind.{MapKind}
use Rattle.records.specs.declared.record.Record.{Record}
use Rattle.job_lines.specs.declared.faults.LineFault.{LineFault}
use Rattle.job_lines.specs.Lines.{lines_of}
use Rattle.job_boards.specs.Plans.{Plan, bare}
use Rattle.job_boards.specs.Faults.{first_line, Good, Faulty}
use Rattle.job_boards.specs.Reading.{header_form, Reaches, Stops}
use Rattle.job_answers.specs.Texts.{fault_line}
use Rattle.jobs.specs.Calls.{Ends}
use Rattle.jobs.specs.Jobs.{Job, empty, bad_first, bad_board, calls}

-- a transcript that has these parts
abbrev pub Ended : List Record → List ℕ → Option LineFault → ℕ → LineFault → Type 0
Ended d said x n k = (d ≡ []) × (said ≡ fault_line n k) × (x ≡ Some k)

ended_job : (room : ℕ) (lines : List (List ℕ)) (n : ℕ) (k : LineFault) (d : List Record) (said : List ℕ) (x : Option LineFault) → Ended d said x n k →
    Job room lines [] (fault_line n k) (Some k) → Job room lines d said x
ended_job room lines n k d said x E J = rw (E.0, E.1, E.2) J

pub no_lines : (room : ℕ) (text : List ℕ) (d : List Record) (said : List ℕ) → text ≡ [] → d ≡ [] → said ≡ [] → Job room (lines_of text) d said None
no_lines room text d said t e s = rw (t, e, s) empty

pub first_faulty : (room : ℕ) (lines left : List (List ℕ)) (bytes : List ℕ) (k : LineFault) (d : List Record) (said : List ℕ) (x : Option LineFault) →
    lines ≡ bytes ∷ left → Faulty first_line bytes k → Ended d said x 1 k → Job room lines d said x
first_faulty room lines left bytes k d said x l F E = rw l (ended_job room (bytes ∷ left) 1 k d said x E (bad_first F))

module _ (room : ℕ) (bytes : List ℕ) (left : List (List ℕ)) (kind : MapKind) (R C k : ℕ) (p : Plan)
    (good : Good first_line bytes (header_form kind R C)) where
  pub board_faulty : (rest : List (List ℕ)) (o : Option LineFault) (f : LineFault) (d : List Record) (said : List ℕ) (x : Option LineFault) →
      Reaches (bare kind R C) left k p rest → Stops p rest o → o ≡ Some f → Ended d said x (k + 2) f → Job room (bytes ∷ left) d said x
  board_faulty rest o f d said x reached stops i E = go rest reached (subst (Stops p rest) i stops)
    where
      go : (ls : List (List ℕ)) → Reaches (bare kind R C) left k p ls → Stops p ls (Some f) → Job room (bytes ∷ left) d said x
      go [] r F = absurd F
      go (line ∷ ls) r F = ended_job room (bytes ∷ left) (k + 2) f d said x E (bad_board good r F)

  pub board_over : (rest : List (List ℕ)) (o : Option LineFault) (d : List Record) (said : List ℕ) (x : Option LineFault) →
      Reaches (bare kind R C) left k p rest → Stops p rest o → o ≡ None → Ends p room (k + 1) rest d said x → Job room (bytes ∷ left) d said x
  board_over rest o d said x reached stops i E = calls good reached (subst (Stops p rest) i stops) E
