use Rattle.std.proofs.Common.{not, ◌&&◌, sym, ap, ◌∙◌}
use Rattle.boards.specs.Meaning.{pad_at}
use Rattle.boards.specs.KeepOuts.{is_closed}
use Rattle.boards.specs.Kept.{kept_pad}
use Rattle.boards.proofs.keep_out.KeepOutBoard.is_pad.Goals as goal

pub returns-then-not-is_closed : goal.returns-then-not-is_closed
returns-then-not-is_closed g c =
    let b = c.args.self.now.board in
    let m = g.B.Board.meaning b in
    let e = kept_pad (is_closed c.args.self.now.mask) m (g.met.B.Board.bounded b) c.args.cell in
    c.is_pad.ensures ∙ sym (e ∙ ap (λ t. not t && pad_at m c.args.cell) (sym c.if-not-is_closed.ensures))

pub returns-else-not-is_closed : goal.returns-else-not-is_closed
returns-else-not-is_closed g c =
    let b = c.args.self.now.board in
    let m = g.B.Board.meaning b in
    let e = kept_pad (is_closed c.args.self.now.mask) m (g.met.B.Board.bounded b) c.args.cell in
    ap not c.if-not-is_closed.false ∙ sym (e ∙ ap (λ t. not t && pad_at m c.args.cell) (sym c.if-not-is_closed.ensures))
