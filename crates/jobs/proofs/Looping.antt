-- The call lines one after another.
use Rattle.std.proofs.Common.{◌≡◌, ℕ, suc, ◌+◌, List, [], ◌∷◌, ◌++◌, length, Some, None, Ok, Err, vec_items, subst, inl, inr}
use Rattle.std.specs.Global.{Vec}
use Rattle.records.specs.declared.record.Record.{Record}
use Rattle.job_lines.specs.declared.faults.LineFault.{LineFault}
use Rattle.job_boards.specs.Plans.{Plan}
use Rattle.job_answers.specs.Texts.{fault_line}
use Rattle.jobs.specs.declared.calls.Stop.TheVariants.{Fault}
use Rattle.jobs.specs.Calls.{Calls, one_more, Ends, all_made, faulty, full}
use Rattle.jobs.specs.Steps.{LineDone}

module _ (p : Plan) (room : ℕ) (lines : List (List ℕ)) (k : ℕ) (d e : List Record) (said bytes : List ℕ) (left more : List (List ℕ))
    (so_far : Calls p room lines k d said left) where
  next : left ≡ bytes ∷ more → Calls p room lines k d said (bytes ∷ more)
  next f = subst (Calls p room lines k d said) f so_far

  module _ (used : ℕ) (all : used ≡ length said) where
    pub calls_more : (v : Vec ℕ) (said' : List ℕ) → left ≡ bytes ∷ more → LineDone p d e room used bytes (Ok v) → said' ≡ said ++ vec_items v →
        Calls p room lines (suc k) e said' more
    calls_more v said' f D s = rw s (one_more (next f) D.0 (rw all at D.1))

    pub calls_end : (before line : ℕ) (x : LineFault) (said' : List ℕ) → left ≡ bytes ∷ more → LineDone p d e room used bytes (Err (Fault x)) →
        line ≡ before + k + 1 → said' ≡ said ++ fault_line line x → Ends p room before lines e said' (Some x)
    calls_end before line x said' f D l s = rw (s, l) (go D)
      where
        go : LineDone p d e room used bytes (Err (Fault x)) → Ends p room before lines e (said ++ fault_line (before + k + 1) x) (Some x)
        go (inl F) = rw F.1 (faulty (next f) F.0)
        go (inr F) = rw F.0 (full (next f) F.1.1 (rw all at F.1.2))

  pub calls_done : (before : ℕ) → left ≡ [] → Ends p room before lines d said None
  calls_done before f = all_made (subst (Calls p room lines k d said) f so_far)
