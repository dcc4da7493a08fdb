use Rattle.std.proofs.Common.{refl, ◌∙◌}
use Rattle.std.proofs.lemmas.Result.{err_from_is_err_and}
use Rattle.boards.specs.Accepted.{accepted_sides, accepted_length}
use Rattle.boards.proofs.map.Map.checked.Goals as goal

pub returns-in_err-check_map : goal.returns-in_err-check_map
returns-in_err-check_map c =
    let p = err_from_is_err_and c.from_residual.result c.from_residual.ensures.1 in
    rw (p.1, p.2) (rw c.as_slice.ensures.value at c.in_err-check_map.ensures)

-- what the map check promises of the slice is so of the bytes
pub invariant_of-result : goal.invariant_of-result
invariant_of-result c =
    let good = rw c.as_slice.ensures.value at c.in_ok-check_map.ensures.0 in
    record { sides = accepted_sides _ _ _ _ good; full = c.args.bytes.ok.0 ∙ accepted_length _ _ _ _ good }

pub returns : goal.returns
returns c = (rw c.as_slice.ensures.value at c.in_ok-check_map.ensures.0, (refl, refl, refl))
