use Rattle.std.proofs.Common.{◌/◌, ◌<◌, length, refl, arith}
use Rattle.boards.proofs.Masks.{closing}
use Rattle.boards.proofs.keep_out.KeepOut.close.Goals as goal

pub returns : goal.returns
returns g c =
    let mask = c.args.self.now.mask in
    let cell = c.args.cell in
    let full = c.args.self.now.full in
    let few = (g.met.B.Board.bounded c.args.self.now.board).few_cells in
    let inside = c.in_ok-require.ensures.1 in
    let h : cell / 64 < length mask = omega arith in
    record {
      answer = (c.in_ok-require.ensures.0, tt);
      closes = closing mask cell h;
      same_board = refl;
    }
