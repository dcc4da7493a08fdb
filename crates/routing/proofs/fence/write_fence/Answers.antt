use Rattle.std.proofs.Common.{rules}
use Rattle.routing.specs.Showing.{shows_pad, shows_cell, shown_pads, shown_cells}
use Rattle.routing.proofs.Listing.{written_part}
use Rattle.routing.proofs.fence.write_fence.Goals as goal

pub returns-clause-writes : goal.returns-clause-writes
returns-clause-writes c =
    let d = c.args.drawing.now in
    let E = c.args.entered.now in
    let pads = c.write_passing-pads.ensures.passing (shows_pad d E c.args.start) (λ x b h post. search rules) in
    let cells = c.write_passing-cells.ensures.passing (shows_cell d E) (λ x b h post. search rules) in
    written_part (shown_pads d E c.args.start) (shown_cells d E) c.args.report.now c.write_passing-pads.new.into c.write_passing-cells.new.into
    c.write_passing-pads.result pads.counts pads.writes cells.writes
