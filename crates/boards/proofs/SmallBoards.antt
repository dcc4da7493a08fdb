-- The small boards, by computation.
use Rattle.std.proofs.Common.{refl, arith}
use Rattle.boards.specs.SmallBoards.{SmallBoards}

pub small_boards : SmallBoards
small_boards = record {
  three_outlets = refl;
  three_pads = refl;
  three_landings = refl;
  one_pad = refl;
  largest = (omega arith, omega arith, omega arith, omega arith, omega arith);
  too_large = λ s. omega (arith, s.4);
  no_rows = λ s. omega (arith, s.0);
}
