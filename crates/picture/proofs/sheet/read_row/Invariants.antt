use Rattle.std.proofs.Common.{◌≡◌, ◌-◌, ◌++◌, map, take, vec_items}
use Rattle.picture.proofs.sheet.read_row.Given as goal

-- the digits so far have been added
abbrev pub invariant-loop-byte : goal.invariant-loop-byte
invariant-loop-byte l = vec_items l.bytes ≡ vec_items l.initial.bytes ++ map (λ b. b - 48) (take l.byte-index l.row)
