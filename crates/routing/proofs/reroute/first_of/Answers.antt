use Rattle.std.proofs.Common.{length, sym, ap, ◌∙◌, subst, arith}
use Rattle.linkages.specs.Lists.{Mem, there}
use Rattle.records.specs.Records.{before_of}
use Rattle.drawings.proofs.Follow.{run_short}
use Rattle.routing.proofs.Barring.{net_begins, net_back_step}
use Rattle.routing.proofs.reroute.first_of.Goals as goal

pub loop-before-init : goal.loop-before-init
loop-before-init c =
    let h = net_begins c.requires.lawful.0 c.args.drawing.now c.requires.lawful.1 c.args.cell c.requires.on_net in
    (c.requires.on_net, h.0, h.1)

pub loop-before-smaller : goal.loop-before-smaller
loop-before-smaller c =
    let d = c.args.drawing.now in
    let h = net_back_step c.requires.lawful.0 d c.requires.lawful.1 c.loop-before.first c.in-Some.before
    (sym (ap before_of c.record_at.ensures) ∙ sym c.in-Some.ensures) c.loop-before.invariant.1 in
    omega (arith, ap length h.2, run_short h.1)

pub loop-before-preserved : goal.loop-before-preserved
loop-before-preserved c =
    let d = c.args.drawing.now in
    let h = net_back_step c.requires.lawful.0 d c.requires.lawful.1 c.loop-before.first c.in-Some.before
    (sym (ap before_of c.record_at.ensures) ∙ sym c.in-Some.ensures) c.loop-before.invariant.1 in
    (h.0, h.1, subst (Mem c.args.cell) (sym h.2) (there c.loop-before.invariant.2))
